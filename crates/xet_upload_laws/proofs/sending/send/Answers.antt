use Rattle.xet_upload_laws.specs.declared.sending.Sent.{Sent}
use Rattle.xet_upload_laws.proofs.SentContents.{clash-answers, sent-answers}
use Rattle.xet_upload_laws.proofs.sending.send.Goals as goal

pub returns-clause-sent : goal.returns-clause-sent
returns-clause-sent g c = sent-answers _ _ _ c.requires.some c.requires.most c.ranges.length.fits _ _ c.in-Ok.ensures
    _ c.upload_all-info.ensures _ c.store_after-store.ensures (λ (s : Sent). s.info) (λ (s : Sent). s.store)
    c.answered.result c.answered.ensures.sent

pub returns-clause-clash : goal.returns-clause-clash
returns-clause-clash g c = λ e.
    let h = c.answered.ensures.clash e in
    clash-answers _ _ _ c.requires.some c.requires.most c.ranges.length.fits _ _ c.in-Ok.ensures _
    c.upload_all-info.ensures _ c.store_after-store.ensures h.1.0 h.1.1 h.0
