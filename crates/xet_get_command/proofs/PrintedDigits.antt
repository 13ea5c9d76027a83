-- What a run through a sink of digits leaves below.
use Rattle.std.proofs.Common.{◌≡◌, ℕ, ◌-◌, ◌≤◌, List, [], ◌∷◌, ◌++◌, length, take, drop, Option, Some, None, IsNone, Ok, Err, refl, sym, ap, ◌∙◌, arith, inl, inr, subst}
use Rattle.std.specs.Prelude.{IfSome, Result, option_map, slice_range, unwrap_or}
use Rattle.std.specs.List.{AllZip, concat, flat_map}
use Rattle.std.proofs.Math.Seq.{take-length}
use Rattle.std.proofs.lemmas.List.{take-append-drop}
use Rattle.hex.specs.Hex.{encode_lower, encode_with}
use Rattle.xet_base.proofs.CallerLemmas.{drop-nil, take-nil}
use Rattle.xet_base.specs.declared.stored.StoredFile.{StoredFile}
use Rattle.xet_base.specs.Store.{Store, chunks_of_term, file_of}
use Rattle.xet_outside.specs.declared.sink.SinkError.{SinkError}
use Rattle.xet_outside.specs.declared.sink.SinkError.TheVariants.{Failed, OutOfMemory}
use Rattle.xet_outside.specs.Told.{FlushCall, Link, Rose, SinkTold, Took, TookPrefix, over, through}
use Rattle.xet_outside.proofs.CallerLemmas.{prefix_front, whole_prefix}
use Rattle.xet_sinks.specs.HexText.{HexPrefix, HexText, list_of}
use Rattle.xet_store.specs.Taps.{TapTold}
use Rattle.xet_error.specs.Errors.{corruption_number}
use Rattle.xet_error.specs.declared.error.FileReconstructionError.{FileReconstructionError}
use Rattle.xet_error.specs.declared.error.FileReconstructionError.TheVariants as error
use Rattle.xet_error.specs.declared.error.Setting.{Setting}
use Rattle.xet_ties.specs.Cuts.{some_said}
use Rattle.xet_ties.specs.InCall.{Exchange, Look}
use Rattle.xet_get_command.specs.declared.digits.Printed.{Printed}
use Rattle.xet_get_command.specs.declared.digits.Printed.TheVariants.{All, NoFile, Part, Stopped}
use Rattle.xet_get_command.specs.declared.digits.Printed.TheVariants as printed
use Rattle.xet_get_command.specs.declared.wanted.Wanted.{Wanted}
use Rattle.xet_room.specs.declared.status.Status.{Status}
use Rattle.xet_room.specs.declared.status.Status.TheVariants.{Done, NotFound, NoMemory, BadBlock, BadSettings}
use Rattle.xet_get_command.specs.steps.PrintedDigits.{AnyDigits, CountedAs, DigitsAs, DigitsBehind, Driven, IsRefusal, NothingAs, Ran, RanAs, StopsAs, Tapped, UnfailedAs, WholeText, Wrote, count_of, status_of_printed}
use Rattle.xet_get_command.specs.Taps.{FirstBytes, FromTaps, IsMade, MadeOf, Passage, all_passages, lane_taps}
use Rattle.xet_get_command.specs.Wanted.{unmet_setting, wanted_bytes, wanted_setup}
use Rattle.xet_get_command.proofs.TapRuns.{took_same}

-- the part of no list
slice_range-nil : (xs : List ℕ) (i j : ℕ) → xs ≡ [] → slice_range xs i j ≡ []
slice_range-nil xs i j e = rw (e, drop-nil) (take-nil (j - i))

-- the bytes of a file that is not stored
window-none : (s : Store) (q : Wanted) → IsNone (file_of s q.file) → wanted_bytes s q ≡ []
window-none s q none = by_file (file_of s q.file) none
  where
    by_file : (o : Option StoredFile) → IsNone o → slice_range (concat (flat_map (chunks_of_term s) (unwrap_or (option_map (λ x. x.terms) o) []))) q.range.start q.range.end ≡ []
    by_file None none = slice_range-nil _ q.range.start q.range.end refl
    by_file (Some f) none = cc

-- how far the bytes were printed, by the run's answer
abbrev pub PrintedBy : Result ℕ FileReconstructionError → Printed → Type 0
PrintedBy (Ok k) p = p ≡ All k
PrintedBy (Err error.OutOfMemory) p = p ≡ Part
PrintedBy (Err error.ClientError) p = ⊥
PrintedBy (Err error.FileNotFound) p = p ≡ NoFile
PrintedBy (Err error.UrlExpired) p = ⊥
PrintedBy (Err error.IoError) p = p ≡ Stopped Failed
PrintedBy (Err (error.CorruptedReconstruction c)) p = p ≡ printed.BadBlock (corruption_number c)
PrintedBy (Err (error.ConfigurationError e)) p = p ≡ printed.BadSettings e
PrintedBy (Err error.Cancelled) p = ⊥
PrintedBy (Err (error.InternalWriterError w)) p = ⊥

-- where the answer is no refusal, no setting fails
met : (q : Wanted) (A : Type 0) (answer : Result ℕ FileReconstructionError) → ((e : Setting) → unmet_setting q ≡ Some e → IsRefusal e answer × A) → ((e : Setting) → IsRefusal e answer → ⊥) → unmet_setting q ≡ None
met q A answer refused other = by (unmet_setting q) refl
  where
    by : (o : Option Setting) → unmet_setting q ≡ o → o ≡ None
    by None e = refl
    by (Some x) e = absurd (other x (refused x e).0)

ok_other : (k : ℕ) (e : Setting) → IsRefusal e (Ok k) → ⊥
ok_other k e (inl w) = cc
ok_other k e (inr w) = cc

missing_other : (e : Setting) → IsRefusal e (Err error.FileNotFound) → ⊥
missing_other e (inl w) = cc
missing_other e (inr w) = cc

module _ (s : Store) (q : Wanted) (ts us : List TapTold) (b n : SinkTold) where
  -- a run, by how far the bytes were printed
  pub ran : (a : Result ℕ FileReconstructionError) (p : Printed) → PrintedBy a p → Tapped s q ts us b n a → Ran s q ts us b n p
  ran (Ok k) p e h = subst (Ran s q ts us b n) (sym e) (record {
    bytes = h.exact;
    settings = met q _ (Ok k) h.settings (ok_other k);
    nothing = tt;
    counts = h.counts;
    stops = tt;
    any = h.any;
    chunks = h.chunks;
    go_on = h.go_on;
    faults = h.faults;
    unfailed = h.unfailed;
    link = h.link;
  })
  ran (Err error.OutOfMemory) p e h = subst (Ran s q ts us b n) (sym e) (record {
    bytes = h.prefix;
    settings = tt;
    nothing = tt;
    counts = tt;
    stops = tt;
    any = h.any;
    chunks = λ honest. tt;
    go_on = h.go_on;
    faults = h.faults;
    unfailed = tt;
    link = h.link;
  })
  ran (Err error.ClientError) p e h = absurd e
  ran (Err error.FileNotFound) p e h = subst (Ran s q ts us b n) (sym e) (record {
    bytes = λ honest. (h.cause honest, nothing (h.prefix honest).count (rw (window-none s q (h.cause honest).1) at (h.prefix honest).took));
    settings = met q _ (Err error.FileNotFound) h.settings missing_other;
    nothing = tt;
    counts = tt;
    stops = tt;
    any = h.any;
    chunks = λ honest. tt;
    go_on = h.go_on;
    faults = h.faults;
    unfailed = h.unfailed;
    link = h.link;
  })
    where
      nothing : (i : ℕ) → Took b.took n.took (take i []) → Took b.took n.took []
      nothing i e = rw (take-nil i) at e
  ran (Err error.UrlExpired) p e h = absurd e
  ran (Err error.IoError) p e h = subst (Ran s q ts us b n) (sym e) (record {
    bytes = λ honest. (λ _. h.cause, h.prefix honest);
    settings = tt;
    nothing = tt;
    counts = tt;
    stops = λ _. h.cause;
    any = h.any;
    chunks = λ honest. tt;
    go_on = h.go_on;
    faults = h.faults;
    unfailed = tt;
    link = h.link;
  })
  ran (Err (error.CorruptedReconstruction c)) p e h = subst (Ran s q ts us b n) (sym e) (record {
    bytes = λ honest. h.cause honest;
    settings = met q _ (Err (error.CorruptedReconstruction c)) h.settings other;
    nothing = tt;
    counts = tt;
    stops = tt;
    any = h.any;
    chunks = λ honest. tt;
    go_on = h.go_on;
    faults = h.faults;
    unfailed = h.unfailed;
    link = h.link;
  })
    where
      other : (x : Setting) → IsRefusal x (Err (error.CorruptedReconstruction c)) → ⊥
      other x (inl w) = cc
      other x (inr w) = cc
  ran (Err (error.ConfigurationError x)) p e h = subst (Ran s q ts us b n) (sym e) (record {
    bytes = λ honest. tt;
    settings = h.cause;
    nothing = (h.settings x h.cause).1 ∙ took_same b.took;
    counts = tt;
    stops = tt;
    any = h.any;
    chunks = λ honest. tt;
    go_on = h.go_on;
    faults = h.faults;
    unfailed = h.unfailed;
    link = h.link;
  })
  ran (Err error.Cancelled) p e h = absurd e
  ran (Err (error.InternalWriterError w)) p e h = absurd e

  -- whatever the answer, a prefix was taken
  prefix_of : (answer : Printed) → NothingAs b n answer → RanAs s q b n answer → TookPrefix b.took n.took (wanted_bytes s q)
  prefix_of (All k) w h = whole_prefix b.took n.took (wanted_bytes s q) h.took
  prefix_of NoFile w h = record { count = 0; within = omega arith; took = h.1 }
  prefix_of Part w h = h
  prefix_of (Stopped e) w h = h.1
  prefix_of (printed.BadBlock k) w h = absurd h
  prefix_of (printed.BadSettings e) w h = record { count = 0; within = omega arith; took = w }

-- ---- bytes that stand in a text of another status stand in one of want of memory

zip_taken : {A B : Type 0} (P : A → B → Type 0) (xs : List A) (ys : List B) → AllZip P xs ys → AllZip P (take (length ys) xs) ys
zip_taken P [] [] h = h
zip_taken P [] (y ∷ ys) h = absurd h
zip_taken P (x ∷ xs) [] h = absurd h
zip_taken P (x ∷ xs) (y ∷ ys) h = (h.0, zip_taken P xs ys h.1)

made_first : (s : Store) (q : Wanted) (xs : List Exchange) (looks : List Look) (status : Status) (bytes : List ℕ) → IsMade s q xs looks status bytes → FirstBytes (wanted_setup q) xs looks bytes
made_first s q xs looks Done bytes m = inr (record {
  planning = m.all.planning;
  pieces = m.pieces;
  each = zip_taken _ (some_said (wanted_setup q) m.all.planning.parts) m.pieces m.each;
  count = length (concat m.pieces);
  is = m.is ∙ sym (take-length (concat m.pieces));
})
made_first s q xs looks NotFound bytes m = inl m.1
made_first s q xs looks NoMemory bytes m = m
made_first s q xs looks (BadBlock k) bytes m = m.0
made_first s q xs looks (BadSettings e) bytes m = inl m.1
made_first s q xs looks _ bytes m = absurd m

pub from_memory : (s : Store) (q : Wanted) (ts us : List TapTold) (status : Status) (bytes : List ℕ) → FromTaps s q ts us status bytes → FromTaps s q ts us NoMemory bytes
from_memory s q ts us status bytes h = by_passages (all_passages (lane_taps q ts) (lane_taps q us)) h
  where
    by_passages : (o : Option (List Passage)) → IfSome o (λ ps. MadeOf s q ps status bytes) → IfSome o (λ ps. MadeOf s q ps NoMemory bytes)
    by_passages None h = tt
    by_passages (Some ps) h = record { xs = h.xs; passed = h.passed; asked = h.asked; once = h.once; planned = h.planned; looks = h.looks; looked = h.looked; given = h.given; made = made_first s q h.xs h.looks status bytes h.made }

-- ---- a flush after a run

module _ (s : Store) (q : Wanted) (ts us : List TapTold) (a b n : SinkTold) where
  more : (P : Status → List ℕ → Type 0) (status : Status) (count : Option ℕ) → n.took ≡ b.took → Wrote P a b status count → Wrote P a n status count
  more P status count same (inl h) = inl (record { bytes = h.bytes; took = same ∙ h.took; total = h.total; from = h.from })
  more P status count same (inr h) = inr h

  pub driven_ok : (start inner : Option (List ℕ)) (answer : Printed) → Ran s q ts us a b answer → FlushCall b n (Ok tt) → HexText start inner n.took → Driven s q ts us a n start inner answer
  driven_ok start inner answer r f text = record {
    ran = record {
      bytes = λ honest. later answer (r.bytes honest);
      settings = r.settings;
      nothing = still answer r.nothing;
      counts = counted answer r.counts;
      stops = stops answer r.stops;
      any = more (FromTaps s q ts us) (status_of_printed answer) (count_of answer) f.took r.any;
      chunks = r.chunks;
      go_on = r.go_on;
      faults = let l = f.faults in let m = r.faults in omega arith;
      unfailed = unfailed answer r.unfailed;
      link = f.link ∙ r.link;
    };
    text = whole answer;
  }
    where
      unfailed : (p : Printed) → UnfailedAs p a b → UnfailedAs p a n
      unfailed (All k) h = f.unfailed ∙ h
      unfailed NoFile h = f.unfailed ∙ h
      unfailed Part h = tt
      unfailed (Stopped e) h = tt
      unfailed (printed.BadBlock k) h = f.unfailed ∙ h
      unfailed (printed.BadSettings e) h = f.unfailed ∙ h

      rose : Rose a.faults b.faults → Rose a.faults n.faults
      rose w = let l = f.faults in omega (arith, w)

      stops : (p : Printed) → StopsAs p a b → StopsAs p a n
      stops (All k) h = tt
      stops NoFile h = tt
      stops Part h = tt
      stops (Stopped e) h = λ w. rose (h w)
      stops (printed.BadBlock k) h = tt
      stops (printed.BadSettings e) h = tt

      still : (p : Printed) → NothingAs a b p → NothingAs a n p
      still (All k) h = tt
      still NoFile h = tt
      still Part h = tt
      still (Stopped e) h = tt
      still (printed.BadBlock k) h = tt
      still (printed.BadSettings e) h = f.took ∙ h

      counted : (p : Printed) → CountedAs a b p → CountedAs a n p
      counted (All k) h = (h.0, f.took ∙ h.1, h.2)
      counted NoFile h = tt
      counted Part h = tt
      counted (Stopped e) h = tt
      counted (printed.BadBlock k) h = tt
      counted (printed.BadSettings e) h = tt

      prefix : TookPrefix a.took b.took (wanted_bytes s q) → TookPrefix a.took n.took (wanted_bytes s q)
      prefix p = record { count = p.count; within = p.within; took = f.took ∙ p.took }

      later : (p : Printed) → RanAs s q a b p → RanAs s q a n p
      later (All k) h = record { stored = h.stored; took = f.took ∙ h.took; total = h.total }
      later NoFile h = (h.0, f.took ∙ h.1)
      later Part h = prefix h
      later (Stopped e) h = (λ w. rose (h.0 w), prefix h.1)
      later (printed.BadBlock k) h = h
      later (printed.BadSettings e) h = h

      whole : (p : Printed) → WholeText start inner n.took p
      whole (All k) = text
      whole NoFile = text
      whole Part = text
      whole (Stopped e) = tt
      whole (printed.BadBlock k) = text
      whole (printed.BadSettings e) = text

  -- a flush that failed after a run
  pub driven_err : (start inner : Option (List ℕ)) (answer : Printed) (e : SinkError) → Ran s q ts us a b answer → FlushCall b n (Err e) → Driven s q ts us a n start inner (Stopped e)
  driven_err start inner answer e r f = record {
    ran = record {
      bytes = λ honest. (failed e f, rw f.took (prefix_of s q ts us a b answer r.nothing (r.bytes honest)));
      settings = tt;
      nothing = tt;
      counts = tt;
      stops = failed e f;
      any = stopped r.any;
      chunks = λ honest. tt;
      go_on = r.go_on;
      faults = let l = f.faults in let m = r.faults in omega arith;
      unfailed = tt;
      link = f.link ∙ r.link;
    };
    text = tt;
  }
    where
      failed : (e : SinkError) → FlushCall b n (Err e) → e ≡ Failed → Rose a.faults n.faults
      failed Failed f w = let l = f.failed refl in let m = r.faults in omega arith
      failed OutOfMemory f w = cc

      stopped : Wrote (FromTaps s q ts us) a b (status_of_printed answer) (count_of answer) → Wrote (FromTaps s q ts us) a n NoMemory None
      stopped (inl h) = inl (record { bytes = h.bytes; took = f.took ∙ h.took; total = tt; from = from_memory s q ts us (status_of_printed answer) h.bytes h.from })
      stopped (inr h) = inr h

same_start : (a b : Option (List ℕ)) (x y : ℕ) (l m : Link) → over a (through x l) ≡ over b (through y m) → (a ≡ b) × (x ≡ y) × (l ≡ m)
same_start a b x y l m e = (cc, cc, cc)

pub encode-nil : encode_lower [] ≡ []
unfolding encode_with
encode-nil = refl

encode-append : (xs ys : List ℕ) → encode_lower (xs ++ ys) ≡ encode_lower xs ++ encode_lower ys
unfolding encode_with
encode-append [] ys = refl
encode-append (x ∷ xs) ys = rw (encode-append xs ys) refl

-- what was told since the beginning
told_bytes : (b t0 t1 : Option (List ℕ)) (xs : List ℕ) (z : List ℕ) → b ≡ Some z → t0 ≡ option_map (λ _. []) b → Took t0 t1 xs → list_of t1 ≡ xs
told_bytes b t0 t1 xs z e f t = rw (t, f, e) refl

-- the digits of all that was told
whole_text : (b n t0 t1 : Option (List ℕ)) (xs : List ℕ) → t0 ≡ option_map (λ _. []) b → Took t0 t1 xs → HexText b n t1 → Took b n (encode_lower xs)
whole_text None n t0 t1 xs f t h = h
whole_text (Some z) n t0 t1 xs f t h = h ∙ ap (λ (us : List ℕ). Some (z ++ encode_lower us)) (told_bytes (Some z) t0 t1 xs z refl f t)

prefix_of_take : (b n : Option (List ℕ)) (xs : List ℕ) (c : ℕ) → TookPrefix b n (encode_lower (take c xs)) → TookPrefix b n (encode_lower xs)
prefix_of_take b n xs c p =
    let e : encode_lower xs ≡ encode_lower (take c xs) ++ encode_lower (drop c xs) = ap encode_lower (sym (take-append-drop c xs)) ∙ encode-append (take c xs) (drop c xs) in
    rw e (prefix_front b n (encode_lower (take c xs)) (encode_lower (drop c xs)) p)

-- a prefix of the digits of what was told, which is a prefix of some bytes
part_text : (b n t0 t1 : Option (List ℕ)) (xs : List ℕ) → t0 ≡ option_map (λ _. []) b → TookPrefix t0 t1 xs → HexPrefix b n t1 → TookPrefix b n (encode_lower xs)
part_text None n t0 t1 xs f t h = record { count = 0; within = omega arith; took = h.took }
part_text (Some z) n t0 t1 xs f t h =
    let e = told_bytes (Some z) t0 t1 (take t.count xs) z refl f t.took in
    prefix_of_take (Some z) n xs t.count (rw e at h)

-- a run through a sink of digits that told `t0` at first and `t1` at last, over one that told `b` and `n`
pub digits_of : (s : Store) (q : Wanted) (ts us : List TapTold) (b n t0 t1 : SinkTold) (start : Option (List ℕ)) (x y : ℕ) (answer : Printed) → t0.took ≡ option_map (λ _. []) b.took → t0.faults ≡ b.faults → t0.link ≡ over b.took (through x b.link) → t1.faults ≡ n.faults → t1.link ≡ over start (through y n.link) → Driven s q ts us t0 t1 start n.took answer → HexPrefix start n.took t1.took → DigitsBehind s q ts us b n answer × (y ≡ x)
digits_of s q ts us b n t0 t1 start x y answer e0 f0 l0 f1 l1 d p =
    let same = same_start start b.took y x n.link b.link (sym l1 ∙ d.ran.link ∙ l0) in (
      record {
        digits = λ honest. record { digits = by_answer answer (d.ran.bytes honest) (rw same.0 at d.text) (rw same.0 at p); faults = later };
        settings = d.ran.settings;
        nothing = nothing answer d.ran.nothing (rw same.0 at d.text);
        stops = stops answer d.ran.stops;
        any = any answer d.ran.any d.ran.counts (rw same.0 at d.text) (rw same.0 at p);
        chunks = d.ran.chunks;
        go_on = d.ran.go_on;
        faults = later;
        unfailed = unfailed answer d.ran.unfailed;
      },
      same.1,
    )
  where
    later : b.faults ≤ n.faults
    later = let m = d.ran.faults in omega arith

    same_faults : t1.faults ≡ t0.faults → n.faults ≡ b.faults
    same_faults e = omega (arith, e, f0, f1)

    unfailed : (p : Printed) → UnfailedAs p t0 t1 → UnfailedAs p b n
    unfailed (All k) h = same_faults h
    unfailed NoFile h = same_faults h
    unfailed Part h = tt
    unfailed (Stopped e) h = tt
    unfailed (printed.BadBlock k) h = same_faults h
    unfailed (printed.BadSettings e) h = same_faults h

    rose : Rose t0.faults t1.faults → Rose b.faults n.faults
    rose m = omega (arith, m, f0, f1)

    stops : (p : Printed) → StopsAs p t0 t1 → StopsAs p b n
    stops (All k) h = tt
    stops NoFile h = tt
    stops Part h = tt
    stops (Stopped e) h = λ w. rose (h w)
    stops (printed.BadBlock k) h = tt
    stops (printed.BadSettings e) h = tt

    nothing : (p : Printed) → NothingAs t0 t1 p → WholeText b.took n.took t1.took p → NothingAs b n p
    nothing (All k) h t = tt
    nothing NoFile h t = tt
    nothing Part h t = tt
    nothing (Stopped e) h t = tt
    nothing (printed.BadBlock k) h t = tt
    nothing (printed.BadSettings e) h t = rw encode-nil at (whole_text b.took n.took t0.took t1.took [] e0 h t)

    -- bytes of which this holds
    one : (status : Status) (bytes : List ℕ) → Took t0.took t1.took bytes → HexText b.took n.took t1.took → Took b.took n.took (encode_lower bytes)
    one status bytes took t = whole_text b.took n.took t0.took t1.took bytes e0 took t

    any : (answer : Printed) → Wrote (FromTaps s q ts us) t0 t1 (status_of_printed answer) (count_of answer) → CountedAs t0 t1 answer → WholeText b.took n.took t1.took answer → HexPrefix b.took n.took t1.took → AnyDigits (FromTaps s q ts us) b n answer
    any (All k) (inl h) w t p = record { bytes = h.bytes; took = one Done h.bytes h.took t; count = h.total; from = h.from }
    any (All k) (inr h) w t p = record { bytes = w.0; took = one Done w.0 w.1 t; count = w.2; from = h Done w.0 }
    any NoFile (inl h) w t p = record { bytes = h.bytes; took = one Done h.bytes h.took t; count = tt; from = h.from }
    any NoFile (inr h) w t p = record { bytes = list_of t1.took; took = t; count = tt; from = h NotFound (list_of t1.took) }
    any Part (inl h) w t p = record { bytes = h.bytes; took = one Done h.bytes h.took t; count = tt; from = h.from }
    any Part (inr h) w t p = record { bytes = list_of t1.took; took = t; count = tt; from = h NoMemory (list_of t1.took) }
    any (Stopped e) (inl h) w t p = record {
      bytes = h.bytes;
      took = part_text b.took n.took t0.took t1.took h.bytes e0 (whole_prefix t0.took t1.took h.bytes h.took) p;
      count = tt;
      from = h.from;
    }
    any (Stopped e) (inr h) w t p = record { bytes = list_of t1.took; took = p; count = tt; from = h NoMemory (list_of t1.took) }
    any (printed.BadBlock k) (inl h) w t p = record { bytes = h.bytes; took = one Done h.bytes h.took t; count = tt; from = h.from }
    any (printed.BadBlock k) (inr h) w t p = record { bytes = list_of t1.took; took = t; count = tt; from = h (BadBlock k) (list_of t1.took) }
    any (printed.BadSettings e) (inl h) w t p = record { bytes = h.bytes; took = one Done h.bytes h.took t; count = tt; from = h.from }
    any (printed.BadSettings e) (inr h) w t p = record { bytes = list_of t1.took; took = t; count = tt; from = h (BadSettings e) (list_of t1.took) }

    by_answer : (answer : Printed) → RanAs s q t0 t1 answer → WholeText b.took n.took t1.took answer → HexPrefix b.took n.took t1.took → DigitsAs s q b n answer
    by_answer (All k) r t p = (r.stored, whole_text b.took n.took t0.took t1.took (wanted_bytes s q) e0 r.took t, r.total)
    by_answer NoFile r t p = (r.0, rw encode-nil at (whole_text b.took n.took t0.took t1.took [] e0 r.1 t))
    by_answer Part r t p = record { count = r.count; took = whole_text b.took n.took t0.took t1.took (take r.count (wanted_bytes s q)) e0 r.took t }
    by_answer (Stopped e) r t p = (λ f. rose (r.0 f), part_text b.took n.took t0.took t1.took (wanted_bytes s q) e0 r.1 p)
    by_answer (printed.BadBlock k) r t p = absurd r
    by_answer (printed.BadSettings e) r t p = tt
