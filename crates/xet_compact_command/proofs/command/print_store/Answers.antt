use Rattle.std.proofs.Common.{inr}
use Rattle.xet_audit.specs.Raws.{store_of_raw}
use Rattle.xet_compact_command.proofs.Compacted.{clash_printed, compacted_printed, invalid_printed}
use Rattle.xet_compact_command.proofs.command.print_store.Goals as goal

pub print_compacted-requires : goal.print_compacted-requires
print_compacted-requires g c =
    record { xorbs = c.in-Ok.ensures.compacted.xorbs_ascend; files = c.in-Ok.ensures.compacted.files_ascend }

pub returns-in-Ok-clause-printed : goal.returns-in-Ok-clause-printed
returns-in-Ok-clause-printed g c =
    let told = g.O.Sink.told in
    compacted_printed (store_of_raw c.args.raw.now) (told c.args.out.now) (told c.print_compacted.new.out) c.print_compacted.result
    c.in-Ok.compacted c.in-Ok.ensures.valid c.in-Ok.ensures.compacted c.in-Ok.ensures.dropped c.print_compacted.ensures.text

pub returns-in-Err-OutOfMemory-clause-printed : goal.returns-in-Err-OutOfMemory-clause-printed
returns-in-Err-OutOfMemory-clause-printed g c = inr c.say.ensures.text

pub returns-in-Err-NotValid-clause-printed : goal.returns-in-Err-NotValid-clause-printed
returns-in-Err-NotValid-clause-printed g c =
    let told = g.O.Sink.told in
    invalid_printed (store_of_raw c.args.raw.now) (told c.args.out.now) (told c.say-in-Err-NotValid.new.out) c.say-in-Err-NotValid.result
    (rw c.in-Err-NotValid.field-0-is at c.in-Err-NotValid.ensures.cause) c.say-in-Err-NotValid.ensures.text

pub returns-in-Err-Clash-clause-printed : goal.returns-in-Err-Clash-clause-printed
returns-in-Err-Clash-clause-printed g c =
    let told = g.O.Sink.told in
    clash_printed (store_of_raw c.args.raw.now) (told c.args.out.now) (told c.print_clash.new.out) c.print_clash.result
    c.in-Err-Clash.hash (rw c.in-Err-Clash.field-0-is at c.in-Err-Clash.ensures.cause) c.print_clash.ensures.text
