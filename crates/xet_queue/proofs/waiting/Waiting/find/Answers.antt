use Rattle.std.proofs.Common.{◌∙◌, None, Some, sym, ap}
use Rattle.xet_queue.specs.Waits.{first_with}
use Rattle.xet_queue.specs.steps.Indexed.{IsFirstNumber}
use Rattle.xet_queue.proofs.Indexes.{found, has_none, none_first}
use Rattle.xet_queue.proofs.waiting.Waiting.find.Goals as goal

pub returns-in_err-number : goal.returns-in_err-number
returns-in_err-number g c =
    let key = g.V.Keyed.key_of in
    let i = c.self.inside in
    let first : IsFirstNumber i.index c.args.key None = rw c.in_err-number.was at c.first_number.ensures in
    let n = none_first key c.args.key i.values.entries (has_none key c.args.key i.values i.index c.len-len.ensures.ordered c.self.invariant.1 first) in
    rw (c.from_residual.ensures, ← c.self.view_is) (sym n)

pub returns : goal.returns
returns g c =
    let key = g.V.Keyed.key_of in
    let i = c.self.inside in
    let first : IsFirstNumber i.index c.args.key (Some c.in_ok-number.number) = rw c.in_ok-number.was at c.first_number.ensures in
    let f = found key c.args.key c.in_ok-number.number i.values i.index c.len-len.ensures.ordered c.self.invariant.1 first in
    c.get.ensures.value ∙ f.there ∙ sym f.oldest.first ∙ ap (λ l. first_with key c.args.key l) c.self.view_is
