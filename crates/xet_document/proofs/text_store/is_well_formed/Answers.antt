use Rattle.std.proofs.Common.{ap, not, ◌∙◌}
use Rattle.xet_document.proofs.TextStores.{left_over, no_value}
use Rattle.xet_document.proofs.text_store.is_well_formed.Goals as goal

pub returns : goal.returns
returns c = λ no. no_value c.args.text.now (rw (c.in-Err.is, c.in_ok-reader.ensures.ok) at c.skip_value.ensures.value)

pub returns-in-Ok : goal.returns-in-Ok
returns-in-Ok c = λ some.
    left_over c.args.text.now c.skip_value.new.self c.next.new.self c.next.result (rw (c.in-Ok.is, c.in_ok-reader.ensures.ok) at c.skip_value.ensures.value) c.next.ensures.value (c.is_none.ensures ∙ ap not some)
