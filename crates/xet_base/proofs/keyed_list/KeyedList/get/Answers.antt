use Rattle.std.proofs.Common.{◌∙◌, sym, ap}
use Rattle.std.specs.Prelude.{option_and_then, slice_get}
use Rattle.std.specs.Ordering.{is_eq}
use Rattle.xet_base.proofs.Lookups.{find_is, looked_up}
use Rattle.xet_base.proofs.keyed_list.KeyedList.get.Goals as goal

pub returns-in_err-number : goal.returns-in_err-number
returns-in_err-number g c =
    let values = c.args.self.now in
    let found = find_is (λ v. is_eq (g.K.Ord.cmp (g.V.Keyed.key_of v) c.args.key.now)) values in
    let none = ap (λ n. option_and_then (λ n. slice_get values n) n) (sym c.position.ensures ∙ c.in_err-number.was) in
    rw c.from_residual.ensures (sym (found ∙ none))

pub returns : goal.returns
returns g c =
    let values = c.args.self.now in
    let found = find_is (λ v. is_eq (g.K.Ord.cmp (g.V.Keyed.key_of v) c.args.key.now)) values in
    let some = ap (λ n. option_and_then (λ n. slice_get values n) n) (sym c.position.ensures ∙ c.in_ok-number.was) in
    let lookup = rw (c.deref.ensures.value, c.self.view_is) at c.get.ensures.lookup in
    let got = looked_up c.get.result values c.in_ok-number.number lookup.0 lookup.1 in
    got ∙ sym (found ∙ some)
