use Rattle.std.proofs.Common.{◌≡◌, rules}
use Rattle.std.specs.List.{copy_within}
use Rattle.xet_serve_lines.proofs.Buffers.{moved}
use Rattle.xet_serve_lines.proofs.cutting.move_to_front.Goals as goal

pub returns-clause-bytes : goal.returns-clause-bytes
returns-clause-bytes c =
    let is : c.copy_within.new.self ≡ copy_within c.args.buffer.now c.args.start c.args.end 0 = search rules in
    rw is (moved c.args.buffer.now c.args.start c.args.end c.requires.0 c.requires.1)
