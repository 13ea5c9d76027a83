use Rattle.std.proofs.Common.{ap, arith, length, refl}
use Rattle.serde_json.specs.Data.{object}
use Rattle.xet_document.proofs.Kept.{found_files}
use Rattle.xet_document.proofs.Objects.{reads_object}
use Rattle.xet_document.proofs.plain_store.find_files.Goals as goal

pub returns-clause-value : goal.returns-clause-value
returns-clause-value c =
    let opened = c.in_ok-open_object.ensures.opened in
    let read = c.in_ok-read_files.ensures.listed in (
      object read.0,
      rw opened (reads_object 126 c.open_object.new.reader c.read_files.new.reader read.0 (omega arith) read.1),
      λ ms h. found_files read.0 ms c.in_ok-read_files.field-0 c.args.found.now _ refl refl read.2 h,
    )

pub returns-clause-shorter : goal.returns-clause-shorter
returns-clause-shorter c = omega (arith, c.in_ok-read_files.ensures.shorter, ap length c.in_ok-open_object.ensures.opened)
