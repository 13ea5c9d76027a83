use Rattle.std.proofs.Common.{◌∙◌}
use Rattle.xet_upload_parts.proofs.Tracked.{calls-known, calls-new, tracks-more, tracks-refused}
use Rattle.xet_upload_parts.proofs.file_tracker.FileTracker.register_given.Goals as goal

pub returns-then-contains : goal.returns-then-contains
returns-then-contains g c =
    rw (calls-known c.args.put.now.hashes.items c.args.raw.now.xorb c.args.dependencies.now (c.contains.ensures.yes c.if-contains.true)) c.register_dependencies.ensures

pub returns-in-Ok : goal.returns-in-Ok
returns-in-Ok g c =
    rw (calls-new c.args.put.now.hashes.items c.args.raw.now.xorb c.args.dependencies.now (c.contains.ensures.no c.if-contains.false)) (tracks-more _ _ _ _ _ _ _ (rw (c.in-Ok.is, c.num_bytes.ensures ∙ c.requires.num_bytes) at c.register_xorb.ensures) _ c.register_dependencies-in-Ok.ensures)

pub returns-in-Err : goal.returns-in-Err
returns-in-Err g c =
    rw (c.from.ensures, calls-new c.args.put.now.hashes.items c.args.raw.now.xorb c.args.dependencies.now (c.contains.ensures.no c.if-contains.false)) (tracks-refused _ _ _ _ _ _ (rw (c.in-Err.is, c.num_bytes.ensures ∙ c.requires.num_bytes) at c.register_xorb.ensures))
