use Rattle.std.proofs.Common.{◌≡◌, ◌+◌, ◌≤◌, ◌<◌, ◌^◌, None, Some, sym, ◌∙◌, inl, inr, rules, arith, ⊎_elim}
use Rattle.std.specs.Prelude.{option_map, slice_get, count_by}
use Rattle.xet_events.specs.Events.{planned, is_admit, unwritten}
use Rattle.xet_events.specs.Indexes.{waiting_of}
use Rattle.xet_run.proofs.Fronts.{waiting_front, may_admit, may_admit_back}
use Rattle.xet_run.proofs.run_core.RunCore.next_to_admit.Goals as goal

pub returns-then-self-eq0 : goal.returns-then-self-eq0
returns-then-self-eq0 g c =
    let es = g.E.EventLog.events c.self.inside.log in
    let none : c.self.inside.index.first_error ≡ None = search rules in
    let front : slice_get c.self.inside.index.waiting.items 0 ≡ Some c.in-Some.next = search rules in
    let h : option_map waiting_of (slice_get (planned es) (count_by is_admit es)) ≡ Some c.in-Some.next = sym (waiting_front _ _ c.self.invariant) ∙ front in
    rw (← c.self.view_is) (sym c.self.invariant.error_is ∙ none, may_admit c.args.limit es _ h (inl (sym c.self.invariant.unwritten_is ∙ c.if-self-eq0.true)), h)

pub returns-in-Some-checked_add : goal.returns-in-Some-checked_add
returns-in-Some-checked_add g c =
    let es = g.E.EventLog.events c.self.inside.log in
    let none : c.self.inside.index.first_error ≡ None = search rules in
    let front : slice_get c.self.inside.index.waiting.items 0 ≡ Some c.in-Some.next = search rules in
    let h : option_map waiting_of (slice_get (planned es) (count_by is_admit es)) ≡ Some c.in-Some.next = sym (waiting_front _ _ c.self.invariant) ∙ front in
    let u = c.self.invariant.unwritten_is in
    let total : c.in-Some-checked_add.total ≡ c.self.inside.index.unwritten + c.in-Some.next.length = search rules in
    let fits : unwritten es + c.in-Some.next.length ≤ c.args.limit = omega (arith, c.if-total-limit.true) in
    rw (← c.self.view_is) (sym c.self.invariant.error_is ∙ none, may_admit c.args.limit es _ h (inr fits), h)

pub returns-in_default-checked_add : goal.returns-in_default-checked_add
returns-in_default-checked_add g c =
    let es = g.E.EventLog.events c.self.inside.log in
    let front : slice_get c.self.inside.index.waiting.items 0 ≡ Some c.in-Some.next = search rules in
    let h : option_map waiting_of (slice_get (planned es) (count_by is_admit es)) ≡ Some c.in-Some.next = sym (waiting_front _ _ c.self.invariant) ∙ front in
    let u = c.self.invariant.unwritten_is in
    let total : c.in-Some-checked_add.total ≡ c.self.inside.index.unwritten + c.in-Some.next.length = search rules in
    let past : c.args.limit < unwritten es + c.in-Some.next.length = omega (arith, c.if-total-limit.false) in
    rw (← c.self.view_is) (λ r m. ⊎_elim (λ z. c.if-self-eq0.false (u ∙ z)) (λ (z : unwritten es + c.in-Some.next.length ≤ c.args.limit). omega arith) (may_admit_back c.args.limit es _ h m))

pub returns-in_default-checked_add-2 : goal.returns-in_default-checked_add-2
returns-in_default-checked_add-2 g c =
    let es = g.E.EventLog.events c.self.inside.log in
    let front : slice_get c.self.inside.index.waiting.items 0 ≡ Some c.in-Some.next = search rules in
    let h : option_map waiting_of (slice_get (planned es) (count_by is_admit es)) ≡ Some c.in-Some.next = sym (waiting_front _ _ c.self.invariant) ∙ front in
    let u = c.self.invariant.unwritten_is in
    let over : 2 ^ 64 ≤ c.self.inside.index.unwritten + c.in-Some.next.length = search rules in
    let below : c.args.limit < 2 ^ 64 = omega arith in
    rw (← c.self.view_is) (λ r m. ⊎_elim (λ z. c.if-self-eq0.false (u ∙ z)) (λ (z : unwritten es + c.in-Some.next.length ≤ c.args.limit). omega arith) (may_admit_back c.args.limit es _ h m))
