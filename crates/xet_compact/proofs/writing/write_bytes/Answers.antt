use Rattle.std.proofs.Common.{◌≡◌, rules}
use Rattle.hex.specs.Hex.{encode_lower}
use Rattle.xet_compact.proofs.writing.write_bytes.Goals as goal

pub returns-clause-written : goal.returns-clause-written
returns-clause-written c =
    let text : c.as_str.result.now ≡ encode_lower c.args.bytes.now = search rules in
    record { before = c.in_ok-string.ensures.room.0; tokens = rw text at c.in_ok-string.ensures.ok }
