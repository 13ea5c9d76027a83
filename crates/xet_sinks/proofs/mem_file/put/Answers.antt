use Rattle.std.proofs.Common.{rules}
use Rattle.xet_sinks.proofs.PutGrown.{put_grown}
use Rattle.xet_sinks.proofs.mem_file.put.Goals as goal

pub returns-clause-put : goal.returns-clause-put
returns-clause-put c = let g = put_grown c.args.content.now.items c.args.piece.now c.args.place c.requires in search
    (rules, g)
