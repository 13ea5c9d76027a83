-- Where a write failed, among the pieces with bytes.
use Rattle.std.proofs.Common.{◌≡◌, ℕ, zero, suc, ◌+◌, ◌-◌, ◌<◌, ◌≤◌, Bool, true, false, List, [], ◌∷◌, ◌++◌, take, drop, length, get_or, Option, Some, Ok, Err, Result, ap, sym, ◌∙◌, refl, arith, length-append}
use Rattle.std.specs.Prelude.{nat_lt}
use Rattle.std.specs.List.{concat}
use Rattle.std.proofs.lemmas.Bool.{ltb-false}
use Rattle.xet_outside.specs.declared.sink.SinkError.{SinkError}
use Rattle.xet_outside.specs.declared.sink.SinkError.TheVariants as sink_error
use Rattle.xet_outside.specs.Told.{SinkTold}
use Rattle.xet_queue.specs.Pieces.{StoppedIn, WrotePieces, bytes_before, nonempty}

-- the place of a piece with bytes among all
pub record Same (ps : List (List ℕ)) (k : ℕ) : Type 0 where
  pub at : ℕ
  pub before : bytes_before at ps ≡ bytes_before k (nonempty ps)
  pub next : get_or ps at [] ≡ get_or (nonempty ps) k []
  pub rest : nonempty (drop at ps) ≡ drop k (nonempty ps)

same_at : (p : List ℕ) (ps : List (List ℕ)) (k : ℕ) (b : Bool) → nat_lt 0 (length p) ≡ b → 0 < length (get_or (nonempty (p ∷ ps)) k []) → ((j : ℕ) → 0 < length (get_or (nonempty ps) j []) → Same ps j) → Same (p ∷ ps) k
same_at p ps zero true e h r = record { at = 0; before = refl; next = rw e refl; rest = refl }
same_at p ps (suc k) true e h r =
    let q = r k (rw e at h) in
    let a = length-append p (concat (take q.at ps)) in
    let b = length-append p (concat (take k (nonempty ps))) in
    let c = q.before in
    record { at = suc q.at; before = rw e (omega arith); next = rw e q.next; rest = rw e q.rest }
same_at p ps k false e h r =
    let q = r k (rw e at h) in
    let a = length-append p (concat (take q.at ps)) in
    let z = ltb-false 0 (length p) e in
    let c = q.before in
    record { at = suc q.at; before = rw e (omega arith); next = rw e q.next; rest = rw e q.rest }

same_place : (ps : List (List ℕ)) (k : ℕ) → 0 < length (get_or (nonempty ps) k []) → Same ps k
same_place [] k h = absurd (omega arith)
same_place (p ∷ ps) k h = same_at p ps k (nat_lt 0 (length p)) refl h (λ j i. same_place ps j i)

again_at : (p : List ℕ) (ps : List (List ℕ)) (b : Bool) → nat_lt 0 (length p) ≡ b → nonempty (nonempty ps) ≡ nonempty ps → nonempty (nonempty (p ∷ ps)) ≡ nonempty (p ∷ ps)
again_at p ps true e r = rw (e, e) (ap (λ l. p ∷ l) r)
again_at p ps false e r = rw e r

again : (ps : List (List ℕ)) → nonempty (nonempty ps) ≡ nonempty ps
again [] = refl
again (p ∷ ps) = again_at p ps (nat_lt 0 (length p)) refl (again ps)

none_in : (p : List ℕ) → length p ≤ 0 → p ≡ []
none_in [] h = refl
none_in (b ∷ p) h = absurd (omega arith)

joined_at : (p : List ℕ) (ps : List (List ℕ)) (b : Bool) → nat_lt 0 (length p) ≡ b → concat (nonempty ps) ≡ concat ps → concat (nonempty (p ∷ ps)) ≡ concat (p ∷ ps)
joined_at p ps true e r = rw e (ap (λ (l : List ℕ). p ++ l) r)
joined_at p ps false e r = let z = none_in p (ltb-false 0 (length p) e) in rw e (r ∙ sym (ap (λ (l : List ℕ). l ++ concat ps) z))

pub joined : (ps : List (List ℕ)) → concat (nonempty ps) ≡ concat ps
joined [] = refl
joined (p ∷ ps) = joined_at p ps (nat_lt 0 (length p)) refl (joined ps)

stopped_among : (a b : Option (List ℕ)) (ps : List (List ℕ)) (count : ℕ) (e : SinkError) → StoppedIn 24 a b (nonempty ps) count e → StoppedIn 24 a b ps count e
stopped_among a b ps count e p =
    let s = same_place ps p.whole p.stopped.next in
    let before = s.before in
    let next = ap length s.next in
    let t = p.took in
    let l = ap length (joined ps) in
    let place = p.place in
    let inside = p.inside in
    let within = t.within in
    let some = p.stopped.next in
    let handed = p.stopped.handed in
    let rest : length (concat (take 24 (nonempty (drop p.whole (nonempty ps))))) ≡ length (concat (take 24 (nonempty (drop s.at ps)))) = ap (λ qs. length (concat (take 24 (nonempty qs)))) (sym s.rest) ∙ ap (λ qs. length (concat (take 24 qs))) (again (drop s.at ps)) in
    record {
      whole = s.at;
      place = omega arith;
      inside = omega arith;
      took = record { count = t.count; above = t.above; within = omega arith; took = rw joined at t.took };
      stopped = record { next = omega arith; memory = λ m. let z = p.stopped.memory m in omega arith; handed = omega arith };
    }

-- what was written of the pieces with bytes was written of all
pub wrote_among : (a b : SinkTold) (ps : List (List ℕ)) (count : ℕ) (end : Result (Unit {0}) SinkError) → WrotePieces 24 a b (nonempty ps) count end → WrotePieces 24 a b ps count end
wrote_among a b ps count (Ok u) w = record { within = rw joined at w.within; whole = rw joined at w.whole; part = tt; flushed = w.flushed; link = w.link; faults = w.faults; failed = w.failed; unfailed = w.unfailed; short = w.short }
wrote_among a b ps count (Err e) w = record { within = rw joined at w.within; whole = tt; part = stopped_among a.took b.took ps count e w.part; flushed = w.flushed; link = w.link; faults = w.faults; failed = w.failed; unfailed = w.unfailed; short = w.short }
