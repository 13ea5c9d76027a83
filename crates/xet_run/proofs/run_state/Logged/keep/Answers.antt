use Rattle.xet_run.proofs.Replays.{kept_state, kept_legal}
use Rattle.xet_run.proofs.run_state.Logged.keep.Goals as goal

pub invariant_of-self-clause-replays : goal.invariant_of-self-clause-replays
invariant_of-self-clause-replays g c = kept_state _ _ _ _ _ _ c.args.self.now.replays c.requires.book c.push_reserved.ensures

pub invariant_of-self-clause-replied : goal.invariant_of-self-clause-replied
invariant_of-self-clause-replied g c = kept_legal _ _ _ _ _ c.args.self.now.replays c.args.self.now.replied c.requires.reply c.push_reserved.ensures
