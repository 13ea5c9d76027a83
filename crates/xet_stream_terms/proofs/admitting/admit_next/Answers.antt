use Rattle.xet_stream_terms.proofs.AdmittedTerms.{admits_call}
use Rattle.xet_stream_terms.proofs.admitting.admit_next.Goals as goal

pub returns : goal.returns
returns g c s carries next cs k = admits_call s c.args.core.now c.args.leader.now carries c.args.next next cs k _ _ _ _
    c.admit_upto.result c.admit_upto.ensures
