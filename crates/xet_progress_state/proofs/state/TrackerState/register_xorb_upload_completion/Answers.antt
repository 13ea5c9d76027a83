use Rattle.xet_progress_state.proofs.state.TrackerState.register_xorb_upload_completion.Goals as goal

pub returns : goal.returns
returns c = rw c.look.ensures at c.complete_xorb.ensures
