use Rattle.std.proofs.Common.{refl, ap, inl, inr, sym, ◌≡◌, ◌∙◌}
use Rattle.std.specs.Prelude.{Err, Ok}
use Rattle.xet_upload_session.specs.Sessions.{SessionTold}
use Rattle.xet_base.proofs.CallerLemmas.{err-of}
use Rattle.xet_clean_parts.proofs.CallerLemmas.{tells-both, tells-err, tells-ok, tells-own, tells-wider}
use Rattle.xet_upload_files.proofs.UploadAlone.{alone-ended, alone-from, alone-stopped}
use Rattle.xet_clean_parts.proofs.CallerLemmas.{calls-none}
use Rattle.xet_upload_files.proofs.UploadCalls.{calls-upload, ends-once, file-sizes, file-tells, start-tells, uploads-both, uploads-from, uploads-same, xorb-upload}
use Rattle.xet_upload_files.proofs.Uploading.{file-unfed, file-unstarted}
use Rattle.xet_upload_files.proofs.uploads.upload_file.Goals as goal

pub returns-in_err-_id-clause-call : goal.returns-in_err-_id-clause-call
returns-in_err-_id-clause-call g c =
    let e : c.from_residual.result ≡ Err c.in_err-_id.field-0.0 = err-of _ _ c.from_residual.ensures in
    rw e (alone-stopped _ _ _ _ _ _ (file-unstarted _ _ _ _ _ _ _ _ _ _ c.start_clean.ensures.same refl
    (rw c.in_err-_id.was at c.start_clean.ensures.starts)) (calls-none _ _ _ c.start_clean.ensures.same))

pub returns-in_err-pour-clause-call : goal.returns-in_err-pour-clause-call
returns-in_err-pour-clause-call g c =
    let e : c.from_residual-in_err-pour.result ≡ Err c.in_err-pour.field-0.0 =
    err-of _ _ c.from_residual-in_err-pour.ensures in
    rw e (alone-from _ _ _ _ _ _ _ c.start_clean.ensures.same (alone-stopped _ _ _ _ _ _
    (file-unfed _ _ _ _ _ _ _ c.in_ok-_id.ensures.cleaner c.in_err-pour.ensures.call) c.pour.ensures.calls))

pub returns-in_err-info-clause-call : goal.returns-in_err-info-clause-call
returns-in_err-info-clause-call g c =
    let e : c.from_residual-in_err-info.result ≡ Err c.in_err-info.field-0.0 =
    err-of _ _ c.from_residual-in_err-info.ensures in
    rw e (alone-from _ _ _ _ _ _ _ c.start_clean.ensures.same (alone-ended _ _ _ _ _ _ _ _ tt
    c.in_ok-_id.ensures.cleaner c.in_ok-pour.ensures.call c.pour.ensures.calls _ _ (Err c.in_err-info.field-0.0)
    c.in_err-info.ensures.ends c.in_err-info.ensures.so))

pub returns-clause-call : goal.returns-clause-call
returns-clause-call g c =
    alone-from _ _ _ _ _ _ _ c.start_clean.ensures.same (alone-ended _ _ _ _ _ _ _ _ tt
    c.in_ok-_id.ensures.cleaner c.in_ok-pour.ensures.call c.pour.ensures.calls _ _
    (Ok (c.in_ok-info.info, c.in_ok-info._counts)) c.in_ok-info.ensures.ends c.in_ok-info.ensures.so)

-- ---- what the tracker is told

pub returns-in_err-_id-clause-tells : goal.returns-in_err-_id-clause-tells
returns-in_err-_id-clause-tells g c = λ h.
    let e : c.from_residual.result ≡ Err c.in_err-_id.field-0.0 = err-of _ _ c.from_residual.ensures in
    rw e (tells-err _ _ _ _ _ (start-tells _ _ _ _ _ _ _ _ (λ e l. inl l) (λ e i q. inr (inl (i, q)))
    (rw c.in_err-_id.was at c.start_clean.ensures.starts)))

pub returns-in_err-pour-clause-tells : goal.returns-in_err-pour-clause-tells
returns-in_err-pour-clause-tells g c = λ h.
    let e : c.from_residual-in_err-pour.result ≡ Err c.in_err-pour.field-0.0 =
    err-of _ _ c.from_residual-in_err-pour.ensures in
    let fin = ap (λ (z : SessionTold). z.finalized) c.start_clean.ensures.same in
    rw e (tells-both _ _ _ _ _ _ (start-tells _ _ _ _ _ _ _ _ (λ e l. inl l) (λ e i q. inr (inl (i, q)))
    (rw c.in_ok-_id.was at c.start_clean.ensures.starts)) _ (tells-own _ _ _ _ _ _ (λ e l. inl (l.0, sym fin ∙ l.1))
    (tells-wider _ _ xorb-upload _ _ _ _ (tells-err _ _ _ _ _ (rw c.in_err-pour.was at c.pour.ensures.tells)))))

pub returns-in_err-info-clause-tells : goal.returns-in_err-info-clause-tells
returns-in_err-info-clause-tells g c = λ h.
    let e : c.from_residual-in_err-info.result ≡ Err c.in_err-info.field-0.0 =
    err-of _ _ c.from_residual-in_err-info.ensures in
    rw e (tells-err _ _ _ _ _ (file-tells _ _ _ _ _ _ _ _ _ _ c.start_clean.ensures.same h
    (rw c.in_ok-_id.was at c.start_clean.ensures.starts) tt (rw c.in_ok-pour.was at c.pour.ensures.tells)
    c.in_ok-_id.ensures.cleaner c.in_ok-pour.ensures.call c.in_err-info.ensures.ends c.in_err-info.ensures.refused
    c.in_err-info.ensures.so))

pub returns-clause-tells : goal.returns-clause-tells
returns-clause-tells g c = λ h. tells-ok _ _ _ _ _ _ (file-tells _ _ _ _ _ _ _ _ _ _ c.start_clean.ensures.same h
    (rw c.in_ok-_id.was at c.start_clean.ensures.starts) tt (rw c.in_ok-pour.was at c.pour.ensures.tells)
    c.in_ok-_id.ensures.cleaner c.in_ok-pour.ensures.call c.in_ok-info.ensures.ends c.in_ok-info.ensures.refused
    c.in_ok-info.ensures.so)

-- ---- the calls of the session, its group and its ids

pub returns-in_err-_id-clause-calls : goal.returns-in_err-_id-clause-calls
returns-in_err-_id-clause-calls g c = uploads-same _ _ _ c.start_clean.ensures.same

pub returns-in_err-pour-clause-calls : goal.returns-in_err-pour-clause-calls
returns-in_err-pour-clause-calls g c =
    uploads-from _ _ _ _ c.start_clean.ensures.same (calls-upload _ _ _ c.pour.ensures.calls)

pub returns-in_err-info-clause-calls : goal.returns-in_err-info-clause-calls
returns-in_err-info-clause-calls g c = uploads-from _ _ _ _ c.start_clean.ensures.same (uploads-both _ _ _ _
    (calls-upload _ _ _ c.pour.ensures.calls) (ends-once _ _ _ _ _ _ c.finish.result c.finish.ensures.so))

pub returns-clause-calls : goal.returns-clause-calls
returns-clause-calls g c = uploads-from _ _ _ _ c.start_clean.ensures.same (uploads-both _ _ _ _
    (calls-upload _ _ _ c.pour.ensures.calls) (ends-once _ _ _ _ _ _ c.finish.result c.finish.ensures.so))

pub returns-in_err-pour-clause-group : goal.returns-in_err-pour-clause-group
returns-in_err-pour-clause-group g c = c.pour.ensures.group.1 ∙ c.start_clean.ensures.group

pub returns-in_err-info-clause-group : goal.returns-in_err-info-clause-group
returns-in_err-info-clause-group g c =
    c.finish.ensures.group.1 ∙ c.pour.ensures.group.1 ∙ c.start_clean.ensures.group

pub returns-clause-group : goal.returns-clause-group
returns-clause-group g c = c.finish.ensures.group.1 ∙ c.pour.ensures.group.1 ∙ c.start_clean.ensures.group

pub returns-clause-ids : goal.returns-clause-ids
returns-clause-ids g c =
    let start = rw c.in_ok-_id.was at c.start_clean.ensures.starts in
    c.finish.ensures.group.0 ∙ c.pour.ensures.group.0 ∙ start.id.1

pub returns-clause-begun : goal.returns-clause-begun
returns-clause-begun g c = file-sizes _ _ _ _ _ _ _ _ _ _ tt _ _ _ _ c.finish.result
    (rw c.in_ok-_id.was at c.start_clean.ensures.starts) (rw c.in_ok-pour.was at c.pour.ensures.tells)
    c.finish.ensures.so

pub returns-in_err-_id-clause-group : goal.returns-in_err-_id-clause-group
returns-in_err-_id-clause-group g c = c.start_clean.ensures.group

-- ---- the file is as it was, but for its source

pub returns-in_err-_id-clause-same : goal.returns-in_err-_id-clause-same
returns-in_err-_id-clause-same g c = refl

pub returns-in_err-pour-clause-same : goal.returns-in_err-pour-clause-same
returns-in_err-pour-clause-same g c = refl

pub returns-in_err-info-clause-same : goal.returns-in_err-info-clause-same
returns-in_err-info-clause-same g c = refl

pub returns-clause-same : goal.returns-clause-same
returns-clause-same g c = refl
