-- Ranges that are fetched one after another into an empty file.
use Rattle.std.proofs.Common.{◌≡◌, ◌⊎◌, ℕ, ◌+◌, ◌-◌, ◌<◌, ◌≤◌, ◌++◌, ◌||◌, Bool, true, false, cond, List, [], ◌∷◌, length, max, min, take}
use Rattle.std.proofs.Common.{drop, Option, None, Some, Ok, Err, Result, OnOk, IfOk, refl, sym, ap, subst, ◌∙◌, inl, inr, ⊎_elim, arith}
use Rattle.std.proofs.Common.{nat_lt, take-append-drop, append-nil}
use Rattle.std.specs.Prelude.{IsNone, IsSome, IsTrue, find}
use Rattle.std.specs.List.{fold, list_any}
use Rattle.std.proofs.lemmas.Bool.{cases_lt, le-ltb, lt-ltb, ltb-false, ltb-true}
use Rattle.std.proofs.lemmas.List.Folds.{list_any-append}
use Rattle.xet_base.specs.declared.cas_types.FileRange.{FileRange}
use Rattle.xet_base.specs.declared.merklehash.MerkleHash.{MerkleHash}
use Rattle.xet_base.specs.Store.{Store, file_of, window}
use Rattle.xet_outside.specs.Told.{SinkTold}
use Rattle.xet_sinks.specs.MemFiles.{mem_told}
use Rattle.xet_sinks.specs.declared.mem_file.MemFile.{MemFile}
use Rattle.xet_error.specs.declared.error.FileReconstructionError.TheVariants as error
use Rattle.xet_error.specs.declared.error.Setting.{Setting}
use Rattle.xet_terms.specs.Settings.{first_config}
use Rattle.xet_ties.specs.Causes.{refused_setting}
use Rattle.xet_ties.specs.Setup.{RunTold, setup_of}
use Rattle.xet_gaps.specs.Gaps.{AreGaps, Gaps, IsGapRecord, around, less, missing_bytes, new_gaps, parts_of, some_range}
use Rattle.xet_gaps.proofs.CallerLemmas.{parts_are}
use Rattle.xet_resume.specs.declared.resume_error.ResumeError.{ResumeError}
use Rattle.xet_resume.specs.declared.resume_error.ResumeError.TheVariants as resume_error
use Rattle.xet_resume.specs.Fetches.{AskedNothing, FetchCall, stop_of}
use Rattle.xet_resume.specs.Fills.{Fills}
use Rattle.xet_resume_command.specs.declared.wanted.ResumeWanted.{ResumeWanted}
use Rattle.xet_resume_command.specs.Resume.{Filled, asks_some, filled_by, is_short, nothing_of, resumed, with_part, with_range}
use Rattle.xet_resume_command.specs.Words.{ranges_of}
use Rattle.xet_resume_command.specs.steps.Filling.{AllAnswer, AsksNone, ContentIs, RangeAnswer, RangeDone, RangeShort, SomeDone}
use Rattle.xet_resume_command.proofs.HonestParts.{Calm, Outcome, Tells, outcome}

abbrev range : ℕ → ℕ → FileRange
range a b = record { start = a; end = b }

-- ---- one call

module _ (s : Store) (r : FileRange) (old new : Gaps) (b n : RunTold) (answer : Result ℕ ResumeError)
    (are : AreGaps 0 old.length_is old.gaps) (t : Tells s old.file b) (m : Calm s old.file n)
    (call : FetchCall first_config r old new b n answer) where
  gaps_are : OnOk answer (new.gaps ≡ less old.gaps r) → (k : ℕ) → answer ≡ Ok k → new ≡ record old { gaps = less old.gaps r }
  gaps_are whole k e =
      let w : new.gaps ≡ less old.gaps r = rw e at whole in
      let marked = call.marks.marked in
      let same : new.gaps ≡ less old.gaps (range r.start call.reached) = ap (λ (g : Gaps). g.gaps) marked in
      marked ∙ ap (λ (l : List FileRange). let z : Gaps = record old { gaps = l } in z) (sym same ∙ w)

  counted_of : (k : ℕ) → answer ≡ Ok k → k + missing_bytes new.gaps ≡ missing_bytes old.gaps
  counted_of k e = rw e at call.marks.counted

  by_outcome : (a : Result ℕ ResumeError) → answer ≡ a → Outcome s old.file (parts_of old.gaps r) b.sink n.sink (stop_of a)
      → RangeAnswer s r old new b.sink n.sink a
  by_outcome (Ok k) e o = record {
    whole = o.0;
    gaps = gaps_are call.marks.whole k e;
    content = o.2;
    stored = o.1;
    counted = counted_of k e;
  }
  by_outcome (Err resume_error.OutOfMemory) e o = tt
  by_outcome (Err (resume_error.Run x)) e o = o
  by_outcome (Err (resume_error.Short expected actual)) e o =
      record { part = o.0; first = o.1; actual_is = o.2; stored = o.3 }

  met : refused_setting (setup_of old.file r first_config) b.clients ≡ None
  met = ap (λ (k : ℕ). Rattle.xet_terms.specs.Settings.failing_setting k 3 1048576 67108864) t.one

  -- a setting failed
  abbrev Refused : Type 0
  Refused = (e : Setting) × (refused_setting (setup_of old.file r first_config) b.clients ≡ Some e)
      × AskedNothing r call.reached b n answer (resume_error.Run (error.ConfigurationError e))

  pub fetched : RangeAnswer s r old new b.sink n.sink answer
  fetched =
      ⊎_elim
      (λ (f : Fills first_config old.file (parts_of old.gaps r) r.end b n call.reached (stop_of answer)).
      by_outcome answer refl
      (outcome s old.file (max 0 r.start) (min old.length_is r.end) r.end (parts_of old.gaps r) b n call.reached (stop_of answer)
      (parts_are r 0 old.length_is old.gaps are) t m f))
      (λ (y : AskedNothing r call.reached b n answer resume_error.OutOfMemory ⊎ Refused).
      ⊎_elim (λ (z : AskedNothing r call.reached b n answer resume_error.OutOfMemory).
      subst (RangeAnswer s r old new b.sink n.sink) (sym z.answered) tt)
      (λ (z : Refused). absurd (let w : None ≡ Some z.0 = sym met ∙ z.1 in cc)) y)
      call.fills

-- ---- a range of an untouched file

-- it has parts exactly where it has bytes of the file
one_asks : (n : ℕ) (r : FileRange) → nat_lt r.start (min r.end n) ≡ false → parts_of (some_range 0 n) r ≡ []
one_asks n r e = by (nat_lt 0 n) refl
  where
    by : (v : Bool) → nat_lt 0 n ≡ v → parts_of (cond v (range 0 n ∷ []) []) r ≡ []
    by false z = refl
    by true z =
        let h = ltb-false r.start (min r.end n) e in
        append-nil (some_range (max 0 r.start) (min n r.end))
        ∙ ap (λ (v : Bool). cond v (range (max 0 r.start) (min n r.end) ∷ []) [])
        (le-ltb (max 0 r.start) (min n r.end) (omega (arith, h)))

some_asks : (n : ℕ) (r : FileRange) → nat_lt r.start (min r.end n) ≡ true → parts_of (some_range 0 n) r ≡ [] → ⊥
some_asks n r e none = by (nat_lt 0 n) refl none
  where
    h : r.start < min r.end n
    h = ltb-true r.start (min r.end n) e

    by : (v : Bool) → nat_lt 0 n ≡ v → parts_of (cond v (range 0 n ∷ []) []) r ≡ [] → ⊥
    by false z x = let w = ltb-false 0 n z in omega (arith, w, h)
    by true z x =
        let y : ◌≡◌ {A = List FileRange} (range (max 0 r.start) (min n r.end) ∷ []) [] =
        sym (append-nil (some_range (max 0 r.start) (min n r.end))
        ∙ ap (λ (v : Bool). cond v (range (max 0 r.start) (min n r.end) ∷ []) [])
        (lt-ltb (max 0 r.start) (min n r.end) (omega (arith, h)))) ∙ x in
        absurd (cc)

-- and takes nothing where it has none
untouched : (n : ℕ) (r : FileRange) → nat_lt r.start (min r.end n) ≡ false → less (some_range 0 n) r ≡ some_range 0 n
untouched n r e = by (nat_lt r.start r.end) (nat_lt 0 n) refl refl
  where
    h : min r.end n ≤ r.start
    h = ltb-false r.start (min r.end n) e

    by : (v w : Bool) → nat_lt r.start r.end ≡ v → nat_lt 0 n ≡ w
        → cond v (Rattle.std.specs.List.flat_map (around r) (cond w (range 0 n ∷ []) [])) (cond w (range 0 n ∷ []) [])
        ≡ cond w (range 0 n ∷ []) []
    by false w x y = refl
    by true false x y = refl
    by true true x y =
        let a = ltb-true r.start r.end x in
        let b = ltb-true 0 n y in
        let low : min n r.start ≡ n = omega (arith, a, h) in
        let front : some_range 0 (min n r.start) ≡ range 0 n ∷ [] =
        ap (λ (k : ℕ). some_range 0 k) low ∙ ap (λ (v : Bool). cond v (range 0 n ∷ []) []) y in
        let back : some_range (max 0 r.end) n ≡ [] =
        ap (λ (v : Bool). cond v (range (max 0 r.end) n ∷ []) []) (le-ltb (max 0 r.end) n (omega (arith, a, h))) in
        append-nil (some_range 0 (min n r.start) ++ some_range (max 0 r.end) n)
        ∙ ap (λ (l : List FileRange). l ++ some_range (max 0 r.end) n) front
        ∙ ap (λ (l : List FileRange). range 0 n ∷ l) back

-- ---- one range after others

filled_then : (s : Store) (f : MerkleHash) (now : Result Filled ℕ) (xs ys : List FileRange)
    → filled_by s f now (xs ++ ys) ≡ filled_by s f (filled_by s f now xs) ys
filled_then s f (Err k) xs ys = refl
filled_then s f (Ok now) [] ys = refl
filled_then s f (Ok now) (r ∷ xs) ys =
    filled_then s f (with_range s f now r (find (is_short s f) (parts_of now.gaps r))) xs ys

asks_more : (w : ResumeWanted) (rs : List FileRange) (r : FileRange) → AsksNone w rs
    → nat_lt r.start (min r.end w.length) ≡ false → AsksNone w (rs ++ r ∷ [])
asks_more w rs r none e =
    list_any-append (λ r. nat_lt r.start (min r.end w.length)) rs (r ∷ [])
    ∙ ap (λ (v : Bool). v || (nat_lt r.start (min r.end w.length) || false)) none
    ∙ ap (λ (v : Bool). v || false) e

module _ (s : Store) (w : ResumeWanted) (rs : List FileRange) (r : FileRange) (old : Gaps) (b : SinkTold) (count : ℕ)
    (d : SomeDone s w rs old b count) where
  -- the gaps and the file are those of the record
  gaps_of : old.gaps ≡ d.filled.gaps
  gaps_of = ap (λ (g : Gaps). g.gaps) d.gaps_are

  file_is : old.file ≡ w.file
  file_is = ap (λ (g : Gaps). g.file) d.gaps_are

  -- of which this range is one more
  next_is : (o : Option FileRange) → find (is_short s w.file) (parts_of d.filled.gaps r) ≡ o
      → filled_by s w.file (Ok (nothing_of w)) (rs ++ r ∷ []) ≡ filled_by s w.file (with_range s w.file d.filled r o) []
  next_is o e =
      filled_then s w.file (Ok (nothing_of w)) rs (r ∷ [])
      ∙ ap (λ (x : Result Filled ℕ). filled_by s w.file x (r ∷ [])) d.filled_is
      ∙ ap (λ (o : Option FileRange). filled_by s w.file (with_range s w.file d.filled r o) []) e

  abbrev Next : Filled
  Next = record {
    gaps = less d.filled.gaps r;
    content = fold (with_part s w.file) d.filled.content (parts_of d.filled.gaps r);
  }

  pub one_more : (new : Gaps) (n : SinkTold) (k : ℕ) → RangeDone s r old new b n k
      → SomeDone s w (rs ++ r ∷ []) new n (count + k)
  one_more new n k x = record {
    filled = record { gaps = less d.filled.gaps r; content = fold (with_part s w.file) d.filled.content (parts_of d.filled.gaps r) };
    filled_is = next_is None whole;
    gaps_are = x.gaps ∙ ap (λ (g : Gaps). let z : Gaps = record g { gaps = less g.gaps r } in z) d.gaps_are;
    content = subst (λ (l : List FileRange). ContentIs n (fold (with_part s w.file) d.filled.content (parts_of l r))) gaps_of
        (subst (λ (f : MerkleHash). ContentIs n (fold (with_part s f) d.filled.content (parts_of old.gaps r))) file_is
        (x.content d.filled.content d.content));
    counted =
        let a = x.counted in
        let c = d.counted in
        let g = ap (λ (l : List FileRange). missing_bytes l) gaps_of in
        let h : missing_bytes new.gaps ≡ missing_bytes (less d.filled.gaps r) =
        ap (λ (z : Gaps). missing_bytes z.gaps) x.gaps ∙ ap (λ (l : List FileRange). missing_bytes (less l r)) gaps_of in
        omega (arith, a, c, g, h);
    stored = ⊎_elim (λ (h : IsSome (file_of s w.file)). inl h) fresh d.stored;
  }
    where
      whole : find (is_short s w.file) (parts_of d.filled.gaps r) ≡ None
      whole =
          subst (λ (l : List FileRange). find (is_short s w.file) (parts_of l r) ≡ None) gaps_of
          (subst (λ (f : MerkleHash). find (is_short s f) (parts_of old.gaps r) ≡ None) file_is x.whole)

      fresh : (d.filled ≡ nothing_of w) × AsksNone w rs
          → IsSome (file_of s w.file) ⊎ ((Next ≡ nothing_of w) × AsksNone w (rs ++ r ∷ []))
      fresh h = by (nat_lt r.start (min r.end w.length)) refl
        where
          all : d.filled.gaps ≡ some_range 0 w.length
          all = ap (λ (x : Filled). x.gaps) h.0

          by : (v : Bool) → nat_lt r.start (min r.end w.length) ≡ v
              → IsSome (file_of s w.file) ⊎ ((Next ≡ nothing_of w) × AsksNone w (rs ++ r ∷ []))
          by true e =
              ⊎_elim
              (λ (z : parts_of old.gaps r ≡ []).
              absurd (some_asks w.length r e (ap (λ (l : List FileRange). parts_of l r) (sym (gaps_of ∙ all)) ∙ z)))
              (λ (z : IsSome (file_of s old.file)). inl (subst (λ (f : MerkleHash). IsSome (file_of s f)) file_is z))
              x.stored
          by false e =
              let same : Next ≡ nothing_of w =
              ap (λ (x : Filled). let z : Filled = record {
                gaps = less x.gaps r;
                content = fold (with_part s w.file) x.content (parts_of x.gaps r);
              } in z) h.0
              ∙ ap (λ (l : List FileRange). let z : Filled = record {
                gaps = l;
                content = fold (with_part s w.file) [] (parts_of (some_range 0 w.length) r);
              } in z) (untouched w.length r e)
              ∙ ap (λ (l : List FileRange). let z : Filled = record {
                gaps = some_range 0 w.length;
                content = fold (with_part s w.file) [] l;
              } in z) (one_asks w.length r e) in
              inr (same, asks_more w rs r h.1 e)

  -- or a short one
  pub one_short : (actual : ℕ) (more : List FileRange) → RangeShort s r old actual
      → ranges_of w ≡ rs ++ r ∷ more → (resumed s w ≡ Err actual) × IsSome (file_of s w.file)
  one_short actual more x e =
      let first =
      subst (λ (l : List FileRange). find (is_short s w.file) (parts_of l r) ≡ Some x.part) gaps_of
      (subst (λ (f : MerkleHash). find (is_short s f) (parts_of old.gaps r) ≡ Some x.part) file_is x.first) in
      let size : length (window s w.file x.part) ≡ actual =
      ap (λ (f : MerkleHash). length (window s f x.part)) (sym file_is) ∙ sym x.actual_is in (
        ap (λ (l : List FileRange). filled_by s w.file (Ok (nothing_of w)) l) e
            ∙ filled_then s w.file (Ok (nothing_of w)) rs (r ∷ more)
            ∙ ap (λ (y : Result Filled ℕ). filled_by s w.file y (r ∷ more)) d.filled_is
            ∙ ap (λ (o : Option FileRange). filled_by s w.file (with_range s w.file d.filled r o) more) first
            ∙ ap (λ (k : ℕ). let z : Result Filled ℕ = Err k in z) size,
        subst (λ (f : MerkleHash). IsSome (file_of s f)) file_is x.stored,
      )

  -- or one of no file
  not_both : (o : Option (Rattle.xet_base.specs.declared.stored.StoredFile.StoredFile)) → IsNone o → IsSome o → ⊥
  not_both None n h = let z : false ≡ true = h in absurd (cc)
  not_both (Some y) n h = let z : true ≡ false = n in absurd (cc)

  pub one_missing : (more : List FileRange) → (0 < length (parts_of old.gaps r)) × IsNone (file_of s old.file)
      → ranges_of w ≡ rs ++ r ∷ more → IsTrue (asks_some w) × IsNone (file_of s w.file)
  one_missing more x e =
      let none : IsNone (file_of s w.file) = subst (λ (f : MerkleHash). IsNone (file_of s f)) file_is x.1 in
      (⊎_elim (λ (h : IsSome (file_of s w.file)). absurd (not_both (file_of s w.file) none h)) asks d.stored, none)
    where
      at : (v : Bool) → nat_lt r.start (min r.end w.length) ≡ v → d.filled.gaps ≡ some_range 0 w.length
          → nat_lt r.start (min r.end w.length) ≡ true
      at true e all = e
      at false e all =
          let z = ap (λ (l : List FileRange). length (parts_of l r)) (gaps_of ∙ all) ∙ ap length (one_asks w.length r e) in
          let some = x.0 in
          absurd (omega (arith, z, some))

      asks : (d.filled ≡ nothing_of w) × AsksNone w rs → IsTrue (asks_some w)
      asks h =
          let here = at (nat_lt r.start (min r.end w.length)) refl (ap (λ (x : Filled). x.gaps) h.0) in
          ap (λ (l : List FileRange). list_any (λ r. nat_lt r.start (min r.end w.length)) l) e
          ∙ list_any-append (λ r. nat_lt r.start (min r.end w.length)) rs (r ∷ more)
          ∙ ap (λ (v : Bool). v || list_any (λ r. nat_lt r.start (min r.end w.length)) (r ∷ more)) h.1
          ∙ ap (λ (v : Bool). v || list_any (λ r. nat_lt r.start (min r.end w.length)) more) here

-- at the start
pub none_done : (s : Store) (w : ResumeWanted) (gaps : Gaps) (b : SinkTold) → gaps ≡ new_gaps w.file w.length → ContentIs b []
    → SomeDone s w [] gaps b 0
none_done s w gaps b e c = record {
  filled = nothing_of w;
  filled_is = refl;
  gaps_are = e;
  content = c;
  counted = all (nat_lt 0 w.length) refl;
  stored = inr (refl, refl);
}
  where
    all : (v : Bool) → nat_lt 0 w.length ≡ v → 0 + missing_bytes (cond v (range 0 w.length ∷ []) []) ≡ w.length
    all true e = omega arith
    all false e = let z = ltb-false 0 w.length e in omega (arith, z)

-- ---- all ranges

-- what a file in memory tells
abbrev pub told_file : MemFile → SinkTold
told_file f =
    mem_told f.taken.items f.flushed f.set_content.value.items f.set_place.value f.set_taken.value

module _ (s : Store) (w : ResumeWanted) (rs more : List FileRange) (r : FileRange) (old new : Gaps) (b n : SinkTold)
    (count : ℕ) (d : SomeDone s w rs old b count) (are : ranges_of w ≡ rs ++ r ∷ more) where
  -- a range that failed ends them
  pub all_failed : (e : ResumeError) → RangeAnswer s r old new b n (Err e) → AllAnswer s w new n (Err e)
  all_failed resume_error.OutOfMemory x = tt
  all_failed (resume_error.Run e) x = one_missing s w rs r old b count d more x are
  all_failed (resume_error.Short expected actual) x = one_short s w rs r old b count d actual more x are

  -- the count stays within the length
  pub count_within : (k : ℕ) → RangeDone s r old new b n k → count + k ≤ w.length
  count_within k x =
      let next = (one_more s w rs r old b count d new n k x).counted in
      omega (arith, next)
