use Rattle.std.specs.Prelude.{Option, Err, max}
use Rattle.std.proofs.Common.{rules, ℕ, ◌≡◌, ◌∙◌, ◌+◌, ◌-◌, ◌≤◌, ◌^◌, refl, sym, ap, Some, arith}
use Rattle.std.specs.Map.{lookup, set_value}
use Rattle.xet_base.specs.declared.item_id.UniqueID.{UniqueID}
use Rattle.xet_base.specs.declared.invalid.Invalid.TheVariants.{SumTooGreat}
use Rattle.xet_progress_state.specs.declared.error.ProgressError.TheVariants.{InvalidOperation}
use Rattle.xet_progress_state.specs.declared.item.GroupProgressReport.{GroupProgressReport}
use Rattle.xet_progress_state.specs.declared.item.ItemProgress.{ItemProgress}
use Rattle.xet_progress_state.specs.Accepted.{too_great}
use Rattle.xet_progress_state.specs.Group.{Group, IsWithinItem, ItemCall, is_id, refusal_at, transfer_sized}
use Rattle.xet_progress_state.proofs.Looked.{too_great_yes}
use Rattle.xet_progress_state.proofs.Sums.{found_is, group_set}
use Rattle.xet_progress_state.proofs.group.GroupState.update_transfer_size.Goals as goal

pub invariant_of-self : goal.invariant_of-self
invariant_of-self c =
    let s = c.self.inside in
    let at : lookup (is_id c.args.id) s.items.entries ≡ Some c.in-Some.item.now = sym c.in-Some.ensures.value in
    let was = found_is IsWithinItem (is_id c.args.id) s.items.entries c.in-Some.item.now c.self.invariant.within.each at in
    let t = was.transfer in
    let e : c.raise_transfer.new.items.entries ≡ set_value (is_id c.args.id) s.items.entries (record c.in-Some.item.now { transfer_bytes = max c.in-Some.item.now.transfer_bytes c.args.total }) = (rw at at c.raise_transfer.ensures) in
    let all : c.in-Some-checked_add.all ≡ s.sums.total_transfer_bytes + (c.args.total - c.in-Some.item.now.transfer_bytes) = search rules in
    rw e (group_set s.items.entries s.added s.finished s.sums (record s.sums { total_transfer_bytes = c.in-Some-checked_add.all }) c.self.invariant c.args.id c.in-Some.item.now
    (record c.in-Some.item.now { transfer_bytes = max c.in-Some.item.now.transfer_bytes c.args.total }) at (record { bytes = was.bytes; transfer = omega (arith, t) }) (omega arith) (omega arith) (omega (arith, all)) (omega arith))

call_over : (g : Group) (id : UniqueID) (v : ItemProgress) (have total h n : ℕ) → lookup (is_id id) g.items ≡ Some v → h ≡ have → n ≡ total - v.transfer_bytes → 2 ^ 64 ≤ h + n → ItemCall g g id (transfer_sized have total) (Err (InvalidOperation (SumTooGreat h n)))
call_over g id v have total h n at a b over =
    let test : refusal_at id (transfer_sized have total) (lookup (is_id id) g.items) ≡ Some (SumTooGreat h n) =
    ap (λ (o : Option ItemProgress). refusal_at id (transfer_sized have total) o) at ∙ (λ i. too_great (sym a i) (sym b i)) ∙ too_great_yes h n over in
    record { accepted = tt; refused = (refl, λ why e. let same : SumTooGreat h n ≡ why = cc in test ∙ ap Some same, λ e. absurd (cc)) }

pub returns-in_default-checked_add : goal.returns-in_default-checked_add
returns-in_default-checked_add c =
    let s = c.self.inside in
    rw (← c.self.view_is) (call_over (record { items = s.items.entries; added = s.added; finished = s.finished }) c.args.id c.in-Some.item.now _ c.args.total s.sums.total_transfer_bytes c.saturating_sub-rise.result (sym c.in-Some.ensures.value)
    (ap (λ (r : GroupProgressReport). r.total_transfer_bytes) c.self.invariant.sums_are) (search rules) (search rules))
