use Rattle.std.proofs.Common.{length, ap, arith}
use Rattle.xet_document.proofs.DocumentTerms.{no_term-short, no_term-long}
use Rattle.xet_document.proofs.value_store.term_of.Goals as goal

pub returns-in_default-clause-term : goal.returns-in_default-clause-term
returns-in_default-clause-term c =
    no_term-short _ c.in_ok-as_array.field-0.now.items c.in_ok-as_array.ensures (omega (arith, c.in_default.len_below, ap length c.as_slice.ensures.value))

pub returns-in_default-2-clause-term : goal.returns-in_default-2-clause-term
returns-in_default-2-clause-term c =
    no_term-long _ c.in_ok-as_array.field-0.now.items c.in_ok-as_array.ensures (omega (arith, c.in_default.len_at_least, ap length c.as_slice.ensures.value))
