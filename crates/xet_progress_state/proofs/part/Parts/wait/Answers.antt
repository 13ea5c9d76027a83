use Rattle.std.proofs.Common.{rules, ◌≡◌, ℕ, ◌+◌, ◌<◌, ◌^◌, List, ◌∙◌, ap, sym, Some, true, length, get_or, arith}
use Rattle.std.specs.Prelude.{position, nat_eq}
use Rattle.std.proofs.lemmas.List.Sums.{passes_at_first}
use Rattle.std.proofs.Math.Seq.{map-set_same}
use Rattle.xet_base.proofs.CallerLemmas.{position_some, place_within}
use Rattle.xet_progress_state.specs.declared.part.Part.{Part}
use Rattle.xet_progress_state.proofs.Places.{find_here}
use Rattle.xet_progress_state.proofs.Remembering.{indexes_to}
use Rattle.xet_progress_state.proofs.part.Parts.wait.Goals as goal

-- the part that was found is the file's
found : (ps : List Part) (f k n : ℕ) (p : Part) → position (λ (p : Part). nat_eq p.file f) ps ≡ Some k → p ≡ get_or ps k p → ((i : ℕ) (d : Part) → i < length ps → nat_eq (get_or ps i d).file f ≡ true → ((get_or ps i d).waiting + n < 2 ^ 64) × ((get_or ps i d).credited + n < 2 ^ 64))
    → (p.waiting + n < 2 ^ 64) × (p.credited + n < 2 ^ 64)
found ps f k n p e at fits =
    let here = find_here (λ (p : Part). nat_eq p.file f) ps k p e in
    let q = position_some (λ (p : Part). nat_eq p.file f) ps k e in
    let lt = place_within (λ (p : Part). nat_eq p.file f) ps q.0 in
    let own : nat_eq (get_or ps k p).file f ≡ true = ap (λ (j : ℕ). nat_eq (get_or ps j p).file f) (sym q.1) ∙ passes_at_first (λ (p : Part). nat_eq p.file f) ps p lt in
    let r = fits k p here.1 own in
    let w = ap (λ (p : Part). p.waiting) at in
    let c = ap (λ (p : Part). p.credited) at in
    (let a = r.0 in omega (arith, a, w), let b = r.1 in omega (arith, b, c))

pub add_bytes-requires-clause-waiting : goal.add_bytes-requires-clause-waiting
add_bytes-requires-clause-waiting c =
    (found c.args.self.now c.args.file c.in-Some.number c.args.bytes c.index_mut.result.now (search rules) (rw c.self.view_is at c.index_mut.ensures.value) c.requires).0

pub add_bytes-requires-clause-credited : goal.add_bytes-requires-clause-credited
add_bytes-requires-clause-credited c =
    (found c.args.self.now c.args.file c.in-Some.number c.args.bytes c.index_mut.result.now (search rules) (rw c.self.view_is at c.index_mut.ensures.value) c.requires).1

pub invariant_of-self : goal.invariant_of-self
invariant_of-self c =
    indexes_to c.self.invariant (map-set_same (λ (p : Part). p.file) c.self.inside.list.items c.in-Some.number c.add_bytes.new.part c.index_mut.result.now
    (ap (λ (p : Part). p.file) c.add_bytes.ensures ∙ ap (λ (p : Part). p.file) c.index_mut.ensures.value))
