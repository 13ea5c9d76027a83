use Rattle.std.specs.Prelude.{Option, Ok, Err}
use Rattle.std.proofs.Common.{rules, ℕ, Bool, ◌≡◌, ◌∙◌, ◌+◌, ◌-◌, ◌≤◌, ◌^◌, true, false, cond, refl, sym, ap, Some, None, arith}
use Rattle.xet_base.specs.declared.item_id.UniqueID.{UniqueID}
use Rattle.xet_progress_state.specs.declared.item.GroupProgressReport.{GroupProgressReport}
use Rattle.xet_base.specs.declared.invalid.Invalid.TheVariants.{SumTooGreat}
use Rattle.xet_progress_state.specs.declared.item.ItemProgress.{ItemProgress}
use Rattle.xet_progress_state.specs.declared.error.ProgressError.TheVariants.{InvalidOperation}
use Rattle.xet_progress_state.specs.Accepted.{too_great}
use Rattle.xet_progress_state.proofs.Looked.{too_great_yes}
use Rattle.std.specs.Prelude.{max}
use Rattle.std.specs.Map.{lookup, set_value}
use Rattle.xet_progress_state.specs.Group.{Group, IsWithinItem, ItemCall, with_item, is_id, refusal_at, group_at, sized}
use Rattle.xet_progress_state.proofs.Sums.{found_is, group_set, set_same}
use Rattle.xet_progress_state.proofs.group.GroupState.update_item_size.Goals as goal

pub invariant_of-self : goal.invariant_of-self
invariant_of-self c =
    let s = c.self.inside in
    let at : lookup (is_id c.args.id) s.items.entries ≡ Some c.in-Some.item.now = sym c.in-Some.ensures.value in
    let was = found_is IsWithinItem (is_id c.args.id) s.items.entries c.in-Some.item.now c.self.invariant.within.each at in
    let t = was.bytes in
    let e : c.raise_size.new.items.entries ≡ set_value (is_id c.args.id) s.items.entries (record c.in-Some.item.now { total_bytes = max c.in-Some.item.now.total_bytes c.args.total; size_finalized = c.args.is_final }) = (rw at at c.raise_size.ensures) in
    let all : c.in-Some-checked_add.all ≡ s.sums.total_bytes + (c.args.total - c.in-Some.item.now.total_bytes) = search rules in
    rw e (group_set s.items.entries s.added s.finished s.sums (record s.sums { total_bytes = c.in-Some-checked_add.all }) c.self.invariant c.args.id c.in-Some.item.now
    (record c.in-Some.item.now { total_bytes = max c.in-Some.item.now.total_bytes c.args.total; size_finalized = c.args.is_final }) at (record { bytes = omega (arith, t); transfer = was.transfer }) (omega (arith, all)) (omega arith) (omega arith) (omega arith))

call_final : (g : Group) (id : UniqueID) (v : ItemProgress) (have total : ℕ) (fin : Bool) → lookup (is_id id) g.items ≡ Some v → v.size_finalized ≡ true → ItemCall g g id (sized have total fin) (Ok tt)
call_final g id v have total fin at is = record {
  accepted = (
    ap (λ (o : Option ItemProgress). refusal_at id (sized have total fin) o) at ∙ ap (λ b. cond b None (too_great have (total - v.total_bytes))) is,
    sym (ap (λ (o : Option ItemProgress). group_at g id (sized have total fin) o) at
        ∙ ap (λ b. with_item g id (cond b v (record v { total_bytes = max v.total_bytes total; size_finalized = fin }))) is
        ∙ (let e = set_same (is_id id) g.items v at in λ i. let h : Group = record g { items = e i } in h)),
  );
  refused = tt;
}

call_over : (g : Group) (id : UniqueID) (v : ItemProgress) (have total : ℕ) (fin : Bool) (h n : ℕ) → lookup (is_id id) g.items ≡ Some v → v.size_finalized ≡ false → h ≡ have → n ≡ total - v.total_bytes → 2 ^ 64 ≤ h + n → ItemCall g g id (sized have total fin) (Err (InvalidOperation (SumTooGreat h n)))
call_over g id v have total fin h n at is a b over =
    let test : refusal_at id (sized have total fin) (lookup (is_id id) g.items) ≡ Some (SumTooGreat h n) =
    ap (λ (o : Option ItemProgress). refusal_at id (sized have total fin) o) at ∙ ap (λ b. cond b None (too_great have (total - v.total_bytes))) is ∙ (λ i. too_great (sym a i) (sym b i)) ∙ too_great_yes h n over in
    record { accepted = tt; refused = (refl, λ why e. let same : SumTooGreat h n ≡ why = cc in test ∙ ap Some same, λ e. absurd (cc)) }

pub returns-then-item : goal.returns-then-item
returns-then-item c =
    let s = c.self.inside in
    rw (← c.self.view_is) (call_final (record { items = s.items.entries; added = s.added; finished = s.finished }) c.args.id c.in-Some.item.now _ c.args.total c.args.is_final (sym c.in-Some.ensures.value) c.if-item.true)

pub returns-in_default-checked_add : goal.returns-in_default-checked_add
returns-in_default-checked_add c =
    let s = c.self.inside in
    rw (← c.self.view_is) (call_over (record { items = s.items.entries; added = s.added; finished = s.finished }) c.args.id c.in-Some.item.now _ c.args.total c.args.is_final s.sums.total_bytes c.saturating_sub-rise.result (sym c.in-Some.ensures.value) c.if-item.false
    (ap (λ (r : GroupProgressReport). r.total_bytes) c.self.invariant.sums_are) (search rules) (search rules))
