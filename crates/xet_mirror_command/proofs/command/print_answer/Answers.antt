use Rattle.std.specs.Prelude.{Result}
use Rattle.std.proofs.Common.{◌∙◌, [], ap, subst, Err}
use Rattle.xet_base.specs.declared.merklehash.MerkleHash.{MerkleHash}
use Rattle.xet_mirror_parts.specs.declared.report.MirrorError.{MirrorError}
use Rattle.xet_mirror_parts.specs.declared.report.MirrorReport.{MirrorReport}
use Rattle.xet_mirror_command.specs.steps.Ends.{Ends}
use Rattle.xet_mirror_command.proofs.Printed.{place_printed, report_printed}
use Rattle.xet_mirror_command.proofs.command.print_answer.Goals as goal

pub returns-in-Ok-clause-printed : goal.returns-in-Ok-clause-printed
returns-in-Ok-clause-printed g c verify s t ends =
    let told = g.O.Sink.told in
    let files = c.args.files.now in
    report_printed verify s t files (told c.args.out.now) (told c.print_report.new.out) c.print_report.result c.in-Ok.report
    (subst (λ (a : Result MirrorReport MirrorError). Ends verify s t files a) c.in-Ok.is ends) c.print_report.ensures.text

pub returns-in-Err-FileMissing-clause-printed : goal.returns-in-Err-FileMissing-clause-printed
returns-in-Err-FileMissing-clause-printed g c verify s t ends =
    let told = g.O.Sink.told in
    let arm = c.in-Err-FileMissing in
    let d : MerkleHash = record { 0 = [] } in
    let is = arm.is in
    let part = rw is at arm.field-0-is in
    place_printed verify s t c.args.files.now (told c.args.out.now) (told c.print_missing.new.out) c.print_missing.result arm.place
    c.args.answer d ends (is ∙ ap Err part) c.print_missing.ensures.text
