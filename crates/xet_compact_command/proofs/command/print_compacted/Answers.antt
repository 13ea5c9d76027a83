use Rattle.std.proofs.Common.{◌≡◌, inl, inr, rules}
use Rattle.xet_audit.specs.Raws.{store_of_raw}
use Rattle.xet_compact.specs.Documents.{document_text}
use Rattle.xet_compact_command.specs.steps.Printing.{counts_line}
use Rattle.xet_compact_command.proofs.command.print_compacted.Goals as goal

pub returns-in-Ok-line_of_kept-clause-text : goal.returns-in-Ok-line_of_kept-clause-text
returns-in-Ok-line_of_kept-clause-text g c =
    let text : c.as_bytes.result.now ≡ document_text (store_of_raw c.args.compacted.now.store) = search rules in
    let last : c.as_bytes-in-Ok-line_of_kept.result.now ≡ counts_line c.args.compacted.now = search rules in
    inl (c.in-Ok.ensures.lists c.requires, rw (text, last) at c.print_both.ensures.text)

pub returns-clause-text : goal.returns-clause-text
returns-clause-text g c = inr c.say-in-Err.ensures.text
