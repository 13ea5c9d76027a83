use Rattle.xet_progress_state.proofs.state.TrackerState.register_xorb_upload_progress_background.Goals as goal

pub returns : goal.returns
returns c = rw c.look.ensures at c.send_in_background.ensures
