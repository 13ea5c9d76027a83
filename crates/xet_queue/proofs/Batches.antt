-- Pieces that are written batch by batch.
use Rattle.std.proofs.Common.{◌≡◌, ℕ, zero, suc, ◌+◌, ◌-◌, ◌<◌, ◌≤◌, Bool, true, false, List, [], ◌∷◌, ◌++◌, take, drop, length, get_or, Option, Ok, Err, Result, ap, sym, ◌∙◌, refl, subst, arith, length-append, length-drop, length-take, drop-drop}
use Rattle.std.specs.Prelude.{nat_lt}
use Rattle.std.specs.List.{concat}
use Rattle.std.proofs.Math.Seq.{take-append-add}
use Rattle.std.proofs.lemmas.Bool.{ltb-false, ltb-true}
use Rattle.std.proofs.lemmas.List.{drop-take, get_or-drop, get_or-take, take-append-le}
use Rattle.std.proofs.lemmas.List.Folds.{concat-append}
use Rattle.xet_outside.proofs.CallerLemmas.{took_both}
use Rattle.xet_outside.specs.declared.sink.SinkError.{SinkError}
use Rattle.xet_outside.specs.Told.{SinkTold, Took}
use Rattle.xet_queue.specs.Pieces.{StoppedIn, WrotePieces, bytes_before, nonempty}
use Rattle.xet_queue.specs.steps.Lending.{Lends}
use Rattle.xet_queue.specs.declared.queued_term.QueuedTerm.{QueuedTerm}
use Rattle.xet_queue.specs.Queues.{ready}
use Rattle.xet_queue.proofs.Joined.{split}
use Rattle.xet_queue.proofs.Stops.{joined, wrote_among}

-- the pieces from one number to another were written, or a write of them failed
pub record WroteTerms (before now : SinkTold) (ps : List (List ℕ)) (at end count : ℕ) (answer : Result (Unit {0}) SinkError) : Type 0 where
  pub ahead : at ≤ end
  pub within : end ≤ length ps
  pub wrote : WrotePieces 24 before now (take (end - at) (drop at ps)) count answer

nil_take : (n : ℕ) → ◌≡◌ {A = List (List ℕ)} (take n []) []
nil_take zero = refl
nil_take (suc n) = refl

-- the pieces before a number, and those of a batch from it on
take_both : (at n : ℕ) (xs : List (List ℕ)) → take (at + n) xs ≡ take at xs ++ take n (drop at xs)
take_both zero n xs = let e : 0 + n ≡ n = omega arith in ap (λ j. take j xs) e
take_both (suc at) n [] = nil_take (suc at + n) ∙ sym (nil_take n)
take_both (suc at) n (x ∷ xs) = let e : suc at + n ≡ suc (at + n) = omega arith in ap (λ j. take j (x ∷ xs)) e ∙ ap (λ l. x ∷ l) (take_both at n xs)

pub before_both : (at n : ℕ) (ps : List (List ℕ)) → bytes_before (at + n) ps ≡ bytes_before at ps + bytes_before n (drop at ps)
before_both at n ps = ap (λ qs. length (concat qs)) (take_both at n ps) ∙ ap length (concat-append (take at ps) (take n (drop at ps))) ∙ length-append (concat (take at ps)) (concat (take n (drop at ps)))

before_batch : (k n : ℕ) (ps : List (List ℕ)) → k ≤ n → bytes_before k (take n ps) ≡ bytes_before k ps
before_batch zero n ps h = refl
before_batch (suc k) zero ps h = absurd (omega arith)
before_batch (suc k) (suc n) [] h = refl
before_batch (suc k) (suc n) (p ∷ ps) h =
    let a = length-append p (concat (take k (take n ps))) in
    let b = length-append p (concat (take k ps)) in
    let c = before_batch k n ps (omega arith) in
    omega arith

pub shorter : (k : ℕ) (ps : List (List ℕ)) → bytes_before k ps ≤ length (concat ps)
shorter k ps = let a = ap length (split ps k) in let b = length-append (concat (take k ps)) (concat (drop k ps)) in omega arith

fewer_at : (most n : ℕ) (p : List ℕ) (ps : List (List ℕ)) (b : Bool) → nat_lt 0 (length p) ≡ b → ((j : ℕ) → length (concat (take j (nonempty (take n ps)))) ≤ length (concat (take j (nonempty ps)))) → length (concat (take most (nonempty (p ∷ take n ps)))) ≤ length (concat (take most (nonempty (p ∷ ps))))
fewer_at most n p ps false e r = rw e (r most)
fewer_at zero n p ps true e r = omega arith
fewer_at (suc most) n p ps true e r =
    let a = length-append p (concat (take most (nonempty (take n ps)))) in
    let b = length-append p (concat (take most (nonempty ps))) in
    let c = r most in
    rw e (omega arith)

-- fewer pieces have no more bytes among the first that have any
fewer : (most n : ℕ) (ps : List (List ℕ)) → length (concat (take most (nonempty (take n ps)))) ≤ length (concat (take most (nonempty ps)))
fewer most zero ps =
    let a : take most (nonempty (take 0 ps)) ≡ [] = nil_take most in
    let l = ap (λ qs. length (concat qs)) a in
    omega arith
fewer most (suc n) [] = omega arith
fewer most (suc n) (p ∷ ps) = fewer_at most n p ps (nat_lt 0 (length p)) refl (λ j. fewer j n ps)

beyond : (k : ℕ) (ps : List (List ℕ)) → length ps ≤ k → length (get_or ps k []) ≡ 0
beyond k [] h = refl
beyond zero (p ∷ ps) h = absurd (omega arith)
beyond (suc k) (p ∷ ps) h = beyond k ps (omega arith)

-- a piece with bytes is among these
inside_of : (k : ℕ) (ps : List (List ℕ)) (b : Bool) → nat_lt k (length ps) ≡ b → 0 < length (get_or ps k []) → k < length ps
inside_of k ps true e h = ltb-true k (length ps) e
inside_of k ps false e h = let l = ltb-false k (length ps) e in let z = beyond k ps l in absurd (omega arith)

front_batch : (at n k : ℕ) (ps : List (List ℕ)) → k ≤ length (concat (take n (drop at ps))) → take (bytes_before at ps + k) (concat ps) ≡ concat (take at ps) ++ take k (concat (take n (drop at ps)))
front_batch at n k ps h =
    let a = split ps at in
    let b = split (drop at ps) n in
    ap (λ l. take (bytes_before at ps + k) l) a ∙ take-append-add (concat (take at ps)) (concat (drop at ps)) k ∙ ap (λ l. concat (take at ps) ++ take k l) b ∙ ap (λ l. concat (take at ps) ++ l) (take-append-le k (concat (take n (drop at ps))) (concat (drop n (drop at ps))) h)

stopped_batch : (a b c : Option (List ℕ)) (ps : List (List ℕ)) (at n count : ℕ) (e : SinkError) → at + n ≤ length ps → Took a b (concat (take at ps)) → StoppedIn 24 b c (take n (drop at ps)) count e → StoppedIn 24 a c ps (bytes_before at ps + count) e
stopped_batch a b c ps at n count e h t s =
    let k = s.whole in
    let some = s.stopped.next in
    let i = inside_of k (take n (drop at ps)) (nat_lt k (length (take n (drop at ps)))) refl some in
    let l = length-drop at ps in
    let m = length-take n (drop at ps) in
    let lt : k < n = omega arith in
    let g : get_or (take n (drop at ps)) k [] ≡ get_or ps (at + k) [] = get_or-take n (drop at ps) k [] lt ∙ get_or-drop at ps k [] in
    let gl = ap length g in
    let x = before_both at k ps in
    let y = before_batch k n (drop at ps) (omega arith) in
    let place = s.place in
    let inside = s.inside in
    let u = s.took in
    let above = u.above in
    let within = u.within in
    let w = before_both at n ps in
    let z = shorter (at + n) ps in
    let handed = s.stopped.handed in
    let ln : k + (n - k) ≡ n = omega arith in
    let dt : drop k (take n (drop at ps)) ≡ take (n - k) (drop (at + k) ps) = ap (λ j. drop k (take j (drop at ps))) (sym ln) ∙ drop-take k (n - k) (drop at ps) ∙ ap (λ l. take (n - k) l) (drop-drop k at ps) in
    let dl = ap (λ qs. length (concat (take 24 (nonempty qs)))) dt in
    let f = fewer 24 (n - k) (drop (at + k) ps) in
    record {
      whole = at + k;
      place = omega arith;
      inside = omega arith;
      took = record {
        count = bytes_before at ps + u.count;
        above = omega arith;
        within = omega arith;
        took = rw (front_batch at n u.count ps within) (took_both a b c (concat (take at ps)) (take u.count (concat (take n (drop at ps)))) t u.took);
      };
      stopped = record { next = omega arith; memory = λ o. let q = s.stopped.memory o in omega arith; handed = omega arith };
    }

-- a write of a batch failed, before which all was written
pub batch_err : (a b c : SinkTold) (ps : List (List ℕ)) (at end count sent : ℕ) (e : SinkError) → count ≡ bytes_before at ps → Took a.took b.took (concat (take at ps)) → b.flushed ≡ a.flushed → b.link ≡ a.link → b.faults ≡ a.faults → WroteTerms b c ps at end sent (Err e) → WrotePieces 24 a c ps (count + sent) (Err e)
batch_err a b c ps at end count sent e n t f g l w =
    let v = w.wrote in
    let ahead = w.ahead in
    let within = w.within in
    let short = v.within in
    let x = before_both at (end - at) ps in
    let y = shorter (at + (end - at)) ps in
    let m = v.faults in
    let s = stopped_batch a.took b.took c.took ps at (end - at) sent e (omega arith) t v.part in
    record {
      within = omega arith;
      whole = tt;
      part = rw n s;
      flushed = v.flushed ∙ f;
      link = v.link ∙ g;
      faults = omega arith;
      failed = λ o. let z = v.failed o in omega arith;
      unfailed = tt;
      short = λ o. v.short o ∙ l;
    }

-- the batch was written
pub record BatchDone (a c : SinkTold) (ps : List (List ℕ)) (end count : ℕ) : Type 0 where
  pub count_is : count ≡ bytes_before end ps
  pub took : Took a.took c.took (concat (take end ps))

pub batch_done : (a b c : SinkTold) (ps : List (List ℕ)) (at end count sent : ℕ) → count ≡ bytes_before at ps → Took a.took b.took (concat (take at ps)) → WroteTerms b c ps at end sent (Ok tt) → BatchDone a c ps end (count + sent)
batch_done a b c ps at end count sent n t w =
    let v = w.wrote in
    let ahead = w.ahead in
    let q = v.whole in
    let l : end ≡ at + (end - at) = omega arith in
    let x = before_both at (end - at) ps in
    let y = ap (λ j. bytes_before j ps) l in
    let k = q.0 in
    let z : concat (take end ps) ≡ concat (take at ps) ++ concat (take (end - at) (drop at ps)) = ap (λ j. concat (take j ps)) l ∙ ap concat (take_both at (end - at) ps) ∙ concat-append (take at ps) (take (end - at) (drop at ps)) in
    record {
      count_is = omega arith;
      took = rw z (took_both a.took b.took c.took (concat (take at ps)) (concat (take (end - at) (drop at ps))) t q.1);
    }

-- so many bytes fit
pub batch_room : (b c : SinkTold) (ps : List (List ℕ)) (at end count sent limit : ℕ) (answer : Result (Unit {0}) SinkError) → count ≡ bytes_before at ps → WroteTerms b c ps at end sent answer → length (concat ps) < limit → count + sent < limit
batch_room b c ps at end count sent limit answer n w h =
    let short = w.wrote.within in
    let x = before_both at (end - at) ps in
    let y = shorter (at + (end - at)) ps in
    omega arith

-- ---- what is lent

pub lent_room : (at end : ℕ) (ts qs : List QueuedTerm) (ps : List (List ℕ)) (limit : ℕ) → Lends at end ts qs ps → length (concat (ready ts)) < limit → length (concat ps) < limit
lent_room at end ts qs ps limit l h =
    let a = ap (λ m. length (concat m)) l.pieces_are in
    let b = ap length (joined (take l.count (drop at (ready ts)))) in
    let x = before_both at l.count (ready ts) in
    let y = shorter (at + l.count) (ready ts) in
    omega arith

-- what was written of the lent bytes was written of the terms
pub lent_wrote : (b c : SinkTold) (end : ℕ) (ts qs : List QueuedTerm) (ps : List (List ℕ)) (count : ℕ) (answer : Result (Unit {0}) SinkError) → Lends 0 end ts qs ps → WrotePieces 24 b c ps count answer → WrotePieces 24 b c (take end (ready ts)) count answer
lent_wrote b c end ts qs ps count answer l w =
    let x = l.end_is in
    let e : l.count ≡ end = omega arith in
    let u = subst (λ (m : List (List ℕ)). WrotePieces 24 b c m count answer) l.pieces_are w in
    let v = wrote_among b c (take l.count (ready ts)) count answer u in
    subst (λ (j : ℕ). WrotePieces 24 b c (take j (ready ts)) count answer) e v
