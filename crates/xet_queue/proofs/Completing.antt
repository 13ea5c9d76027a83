-- Terms that wait, and the first with a start.
use Rattle.std.proofs.Common.{◌≡◌, ℕ, ◌+◌, ◌-◌, ◌^◌, ◌<◌, Bool, true, false, ◌==◌, List, [], ◌∷◌, ◌++◌, length, map, min, Option, Some, None, Ok, Err, Result, ap, sym, ◌∙◌, refl, arith}
use Rattle.std.specs.Prelude.{IfErr, OnOk, slice_get}
use Rattle.std.proofs.lemmas.Bool.{eqb-true}
use Rattle.xet_base.specs.declared.cas_types.FileRange.{FileRange}
use Rattle.xet_run.specs.Budgets.{Admission}
use Rattle.xet_error.specs.declared.error.FileReconstructionError.{FileReconstructionError}
use Rattle.xet_error.specs.declared.error.FileReconstructionError.TheVariants as error
use Rattle.xet_error.specs.declared.error.WriterFault.{WriterFault}
use Rattle.xet_error.specs.declared.error.WriterFault.TheVariants as fault
use Rattle.xet_queue.specs.declared.completed_term.WantedTerm.{WantedTerm}
use Rattle.xet_queue.specs.Calls.{FinishCall, SetSums, closed_by, finish_fault, length_fault, supply_fault, wanted_without}
use Rattle.xet_queue.specs.Unordered.{Unordered, complete, range_of, start_of, sums_of, told_of, total_length}
use Rattle.xet_queue.specs.Waits.{first_with, without_first}
use Rattle.xet_queue.specs.steps.UnorderedSteps.{CompletedFirst}
use Rattle.xet_queue.proofs.Terms.{no_fault, none_wanted}

-- the test of bytes for the first term with a start
abbrev pub fault_of : ℕ → List ℕ → Option WantedTerm → Option WriterFault
fault_of start bytes None = Some (fault.NotWanted start)
fault_of start bytes (Some t) = length_fault t.byte_range bytes

fault_at : (start : ℕ) (bytes : List ℕ) (t : WantedTerm) (ts : List WantedTerm) (b : Bool) → (t.byte_range.start == start) ≡ b → fault_of start bytes (first_with start_of start ts) ≡ supply_fault (map range_of ts) start bytes → fault_of start bytes (first_with start_of start (t ∷ ts)) ≡ supply_fault (map range_of (t ∷ ts)) start bytes
fault_at start bytes t ts true e r = rw e refl
fault_at start bytes t ts false e r = rw e r

pub fault_is : (start : ℕ) (bytes : List ℕ) (ts : List WantedTerm) → fault_of start bytes (first_with start_of start ts) ≡ supply_fault (map range_of ts) start bytes
fault_is start bytes [] = refl
fault_is start bytes (t ∷ ts) = fault_at start bytes t ts (t.byte_range.start == start) refl (fault_is start bytes ts)

without_at : (start : ℕ) (t : WantedTerm) (ts : List WantedTerm) (b : Bool) → (t.byte_range.start == start) ≡ b → map range_of (without_first start_of start ts) ≡ wanted_without start (map range_of ts) → map range_of (without_first start_of start (t ∷ ts)) ≡ wanted_without start (map range_of (t ∷ ts))
without_at start t ts true e r = rw e refl
without_at start t ts false e r = rw e (ap (λ l. t.byte_range ∷ l) r)

without_told : (start : ℕ) (ts : List WantedTerm) → map range_of (without_first start_of start ts) ≡ wanted_without start (map range_of ts)
without_told start [] = refl
without_told start (t ∷ ts) = without_at start t ts (t.byte_range.start == start) refl (without_told start ts)

-- the test of an end
abbrev pub end_fault : Option WantedTerm → Option WriterFault
end_fault None = None
end_fault (Some t) = Some (fault.StillWanted t.byte_range.start)

pub end_is : (ts : List WantedTerm) → end_fault (slice_get ts 0) ≡ finish_fault (map range_of ts)
end_is [] = refl
end_is (t ∷ ts) = refl

-- none has this start
same_at : (start : ℕ) (t : WantedTerm) (ts : List WantedTerm) (b : Bool) → (t.byte_range.start == start) ≡ b → first_with start_of start (t ∷ ts) ≡ None → (first_with start_of start ts ≡ None → without_first start_of start ts ≡ ts) → without_first start_of start (t ∷ ts) ≡ t ∷ ts
same_at start t ts true e h r = let f : ◌≡◌ {A = Option WantedTerm} (Some t) None = rw e at h in absurd (cc)
same_at start t ts false e h r = rw e (ap (λ l. t ∷ l) (r (rw e at h)))

pub none_taken : (start : ℕ) (ts : List WantedTerm) → first_with start_of start ts ≡ None → without_first start_of start ts ≡ ts
none_taken start [] h = refl
none_taken start (t ∷ ts) h = same_at start t ts (t.byte_range.start == start) refl h (λ f. none_taken start ts f)

-- ---- sums

abbrev pub length_of : WantedTerm → ℕ
length_of t = t.byte_range.end - t.byte_range.start

pub total_more : (ts : List WantedTerm) (t : WantedTerm) → total_length (ts ++ t ∷ []) ≡ total_length ts + length_of t
total_more [] t = omega arith
total_more (u ∷ ts) t = let r = total_more ts t in omega arith

total_at : (start : ℕ) (u : WantedTerm) (ts : List WantedTerm) (t : WantedTerm) (b : Bool) → (u.byte_range.start == start) ≡ b → first_with start_of start (u ∷ ts) ≡ Some t → (first_with start_of start ts ≡ Some t → length_of t + total_length (without_first start_of start ts) ≡ total_length ts) → length_of t + total_length (without_first start_of start (u ∷ ts)) ≡ total_length (u ∷ ts)
total_at start u ts t true e h r =
    let f : ◌≡◌ {A = Option WantedTerm} (Some u) (Some t) = rw e at h in
    let z : u ≡ t = cc in
    rw (e, z) refl
total_at start u ts t false e h r =
    let f : first_with start_of start ts ≡ Some t = rw e at h in
    let q = r f in
    rw e (omega arith)

pub total_less : (start : ℕ) (ts : List WantedTerm) (t : WantedTerm) → first_with start_of start ts ≡ Some t → length_of t + total_length (without_first start_of start ts) ≡ total_length ts
total_less start [] t h = absurd (cc)
total_less start (u ∷ ts) t h = total_at start u ts t (u.byte_range.start == start) refl h (λ f. total_less start ts t f)

-- what the sums say of a completed term, and of one that waits
pub sums_waiting : (w : Unordered) (t : WantedTerm) → sums_of (record w { wanted = w.wanted ++ t ∷ [] }) ≡ record (sums_of w) { bytes = min ((sums_of w).bytes + length_of t) (2 ^ 64 - 1) }
sums_waiting w t =
    let a = total_more w.wanted t in
    let e : min (w.total + total_length (w.wanted ++ t ∷ [])) (2 ^ 64 - 1) ≡ min (min (w.total + total_length w.wanted) (2 ^ 64 - 1) + length_of t) (2 ^ 64 - 1) = omega arith in
    ap (λ n. record { bytes = n; faults = 0 }) e

-- bytes that pass their test leave the sums
sums_at : (w : Unordered) (start : ℕ) (bytes : List ℕ) (o : Option WantedTerm) → first_with start_of start w.wanted ≡ o → fault_of start bytes o ≡ None → sums_of (complete w start bytes o) ≡ sums_of w
sums_at w start bytes None e h = refl
sums_at w start bytes (Some t) e h =
    let a = total_less start w.wanted t e in
    let n = eqb-true (length bytes) (t.byte_range.end - t.byte_range.start) (no_fault t.byte_range bytes h) in
    let m : min (min (w.total + length bytes) (2 ^ 64 - 1) + total_length (without_first start_of start w.wanted)) (2 ^ 64 - 1) ≡ min (w.total + total_length w.wanted) (2 ^ 64 - 1) = omega arith in
    ap (λ n. record { bytes = n; faults = 0 }) m

pub sums_supplied : (w : Unordered) (start : ℕ) (bytes : List ℕ) → supply_fault (map range_of w.wanted) start bytes ≡ None → sums_of (complete w start bytes (first_with start_of start w.wanted)) ≡ sums_of w
sums_supplied w start bytes h = sums_at w start bytes (first_with start_of start w.wanted) refl (fault_is start bytes w.wanted ∙ h)

-- ---- calls

pub none_completed : (b : Unordered) (start : ℕ) (bytes : List ℕ) → first_with start_of start b.wanted ≡ None → CompletedFirst b b start bytes (Ok tt)
none_completed b start bytes e =
    let w = sym (without_told start b.wanted) ∙ ap (λ l. map range_of l) (none_taken start b.wanted e) in
    record { done = rw e refl; told = rw w refl; memory = tt }

pub first_completed : (b n : Unordered) (start : ℕ) (bytes : List ℕ) (t : WantedTerm) → first_with start_of start b.wanted ≡ Some t → n ≡ complete b start bytes (Some t) → CompletedFirst b n start bytes (Ok tt)
first_completed b n start bytes t e h =
    record {
      done = h ∙ ap (λ o. complete b start bytes o) (sym e);
      told = ap told_of h ∙ ap (λ rs. record (told_of b) { wanted = rs }) (without_told start b.wanted);
      memory = tt;
    }

-- what the calls leave of the sums
pub set_waiting : (b n : Unordered) (r : FileRange) (a : Option Admission) (answer : Result (Unit {0}) FileReconstructionError) → OnOk answer (n ≡ record b { wanted = b.wanted ++ record { byte_range = r; admission = a } ∷ [] }) → IfErr answer (λ e. (e ≡ error.OutOfMemory) × (n ≡ b)) → SetSums (sums_of b) (sums_of n) r answer
set_waiting b n r a (Ok u) d m = ap sums_of d ∙ sums_waiting b (record { byte_range = r; admission = a })
set_waiting b n r a (Err e) d m = ap sums_of m.1

pub supply_sums : (b n : Unordered) (start : ℕ) (bytes : List ℕ) (answer : Result (Unit {0}) FileReconstructionError) → supply_fault (map range_of b.wanted) start bytes ≡ None → CompletedFirst b n start bytes answer → sums_of n ≡ sums_of b
supply_sums b n start bytes (Ok u) f c = ap sums_of c.done ∙ sums_supplied b start bytes f
supply_sums b n start bytes (Err e) f c = ap sums_of c.memory.1

none_waits : (ts : List WantedTerm) → map range_of ts ≡ [] → total_length ts ≡ 0
none_waits [] e = refl
none_waits (t ∷ ts) e = absurd (cc)

pub finish_done : (b : Unordered) → closed_by (told_of b) ≡ None → finish_fault (map range_of b.wanted) ≡ None → b.total < 2 ^ 64 → FinishCall (told_of b) (told_of (record b { finished = true })) (sums_of b) (sums_of (record b { finished = true })) (Ok b.total)
finish_done b c f h =
    let z = none_waits b.wanted (none_wanted (map range_of b.wanted) f) in
    record {
      refused = record {
        closed = λ e x. let y : ◌≡◌ {A = Option FileReconstructionError} None (Some e) = sym c ∙ x in absurd (cc);
        refused = λ g x y. let z : ◌≡◌ {A = Option WriterFault} None (Some g) = sym f ∙ y in absurd (cc);
      };
      done = λ x y. (refl, omega arith);
      failed = λ x y. tt;
      bytes = refl;
      faults = omega arith;
      unfailed = refl;
    }
