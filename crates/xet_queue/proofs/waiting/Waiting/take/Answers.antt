use Rattle.std.proofs.Common.{◌≡◌, ◌∙◌, None, Some, sym, ap, true}
use Rattle.std.specs.Map.{values_of}
use Rattle.xet_queue.specs.Waits.{first_with, without_first}
use Rattle.xet_queue.specs.steps.Indexed.{IsFirstNumber, all_below}
use Rattle.xet_queue.proofs.Indexes.{below_rest, found, has_none, none_first, none_without, tied_less}
use Rattle.xet_queue.proofs.waiting.Waiting.take.Goals as goal

pub returns-in_err-number-clause-value : goal.returns-in_err-number-clause-value
returns-in_err-number-clause-value g c =
    let key = g.V.Keyed.key_of in
    let i = c.self.inside in
    let first : IsFirstNumber i.index c.args.key None = rw c.in_err-number.was at c.first_number.ensures in
    let n = none_first key c.args.key i.values.entries (has_none key c.args.key i.values i.index c.len-len.ensures.ordered c.self.invariant.1 first) in
    rw (c.from_residual.ensures, ← c.self.view_is) (sym n)

pub returns-in_err-number-clause-rest : goal.returns-in_err-number-clause-rest
returns-in_err-number-clause-rest g c =
    let key = g.V.Keyed.key_of in
    let i = c.self.inside in
    let first : IsFirstNumber i.index c.args.key None = rw c.in_err-number.was at c.first_number.ensures in
    let n = none_without key c.args.key i.values.entries (has_none key c.args.key i.values i.index c.len-len.ensures.ordered c.self.invariant.1 first) in
    rw (← c.self.view_is) (sym n)

pub invariant_of-self : goal.invariant_of-self
invariant_of-self g c =
    let key = g.V.Keyed.key_of in
    let i = c.self.inside in
    let k = c.in_ok-number.number in
    let first : IsFirstNumber i.index c.args.key (Some k) = rw c.in_ok-number.was at c.first_number.ensures in
    let f = found key c.args.key k i.values i.index c.len-len.ensures.ordered c.self.invariant.1 first in
    let below : all_below i.next c.remove-2.new.self.entries ≡ true = rw c.remove-2.ensures.entries (below_rest i.next k i.values.entries c.self.invariant.0) in
    (below, tied_less key i.values c.remove-2.new.self i.index c.remove.new.self f.value c.args.key k c.self.invariant.1 f.there f.has c.remove-2.ensures.updates.0 c.remove.ensures.updates.0)

pub returns-clause-value : goal.returns-clause-value
returns-clause-value g c =
    let key = g.V.Keyed.key_of in
    let i = c.self.inside in
    let k = c.in_ok-number.number in
    let first : IsFirstNumber i.index c.args.key (Some k) = rw c.in_ok-number.was at c.first_number.ensures in
    let f = found key c.args.key k i.values i.index c.len-len.ensures.ordered c.self.invariant.1 first in
    c.remove-2.ensures.value ∙ f.there ∙ sym f.oldest.first ∙ ap (λ l. first_with key c.args.key l) c.self.view_is

pub returns-clause-rest : goal.returns-clause-rest
returns-clause-rest g c =
    let key = g.V.Keyed.key_of in
    let i = c.self.inside in
    let k = c.in_ok-number.number in
    let first : IsFirstNumber i.index c.args.key (Some k) = rw c.in_ok-number.was at c.first_number.ensures in
    let f = found key c.args.key k i.values i.index c.len-len.ensures.ordered c.self.invariant.1 first in
    ap values_of c.remove-2.ensures.entries ∙ f.oldest.rest ∙ ap (λ l. without_first key c.args.key l) c.self.view_is
