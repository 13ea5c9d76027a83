use Rattle.xet_stream_terms.proofs.AdmittedTerms.{ahead_call}
use Rattle.xet_stream_terms.proofs.admitting.admit_ahead.Goals as goal

pub returns : goal.returns
returns g c s carries cs k = ahead_call s c.args.core.now c.args.leader.now carries cs k _ _ _ _ _ c.admit_all.result
    c.admit_all.ensures
