use Rattle.xet_upload_session.proofs.CallerLemmas.{told-err, told-ok}
use Rattle.xet_clean_parts.proofs.deduplication_interface.UploadSessionDataManagerDeduplicationDataInterface.register_new_xorb.Goals as goal

pub returns-in-Ok-clause-tracks : goal.returns-in-Ok-clause-tracks
returns-in-Ok-clause-tracks g c = told-ok _ _ _ _ _ _ _ _ (rw c.in-Ok.is at c.register_new_xorb.ensures.tracks)

pub returns-in-Err-clause-tracks : goal.returns-in-Err-clause-tracks
returns-in-Err-clause-tracks g c = told-err _ _ _ _ _ _ _ (rw c.in-Err.is at c.register_new_xorb.ensures.tracks)
