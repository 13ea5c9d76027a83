use Rattle.std.proofs.Common.{◌≡◌, ◌<◌, length, arith, rules}
use Rattle.xet_audit.specs.Raws.{store_of_raw}
use Rattle.xet_audit_command.proofs.Reports.{bad_printed, good_printed}
use Rattle.xet_audit_command.proofs.command.print_store.Goals as goal

pub returns-then-count-eq0-clause-printed : goal.returns-then-count-eq0-clause-printed
returns-then-count-eq0-clause-printed g c =
    let told = g.O.Sink.told in
    let zero : length c.in-Ok.report.findings ≡ 0 = search rules in
    good_printed c.args.hashes c.args.raw.now c.in-Ok.report (told c.args.out.now) (told c.print_good.new.out) c.print_good.result
    c.in-Ok.ensures.findings c.in-Ok.ensures.spare zero c.print_good.ensures.text

pub returns-clause-printed : goal.returns-clause-printed
returns-clause-printed g c =
    let told = g.O.Sink.told in
    let count : length c.in-Ok.report.findings ≡ c.len-count.result = search rules in
    let some : 0 < c.len-count.result = omega arith in
    bad_printed c.args.hashes (store_of_raw c.args.raw.now) c.in-Ok.report (told c.args.out.now) (told c.print_bad.new.out) c.print_bad.result
    c.len-count.result c.in-Ok.ensures.findings c.in-Ok.ensures.spare count some c.print_bad.ensures.text
