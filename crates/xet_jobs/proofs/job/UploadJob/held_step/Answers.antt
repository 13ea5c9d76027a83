use Rattle.std.proofs.Common.{refl, arith, sym, ◌≡◌, ◌≤◌, ◌∙◌, length, take}
use Rattle.std.specs.Prelude.{Err, Ok}
use Rattle.xet_base.proofs.CallerLemmas.{err-of}
use Rattle.xet_clean.specs.Showing.{cleaner_of}
use Rattle.xet_jobs.proofs.Stepping.{gone, held-step, mapped, none-read, some-read, step-ended, step-failed, step-fed}
use Rattle.xet_jobs.proofs.job.UploadJob.held_step.Goals as goal

pub returns-in_err-held_finish-in-None-clause-call : goal.returns-in_err-held_finish-in-None-clause-call
returns-in_err-held_finish-in-None-clause-call g c =
    let e : c.from_residual.result ≡ Err c.in_err-held_finish-in-None.field-0.0 = err-of _ _ c.from_residual.ensures in
    let before = c.args.self.now in
    let now = c.in-Some-Some in
    let h = rw c.in_err-held_finish-in-None.was at c.held_finish.ensures in
    rw e (held-step _ h.found h.left _ _ _ h.listed (step-ended _ _ _ (cleaner_of g.T.Cutter.told now.cleaner) _ _
    (take now.count before.buffer.items)
    (mapped _ before.cleaner c.take.result now.cleaner c.take.ensures.value now.is-0)
    (mapped _ before.ready c.take-2.result now.count c.take-2.ensures.value now.is-1)
    refl (gone _ _ c.take-2.ensures.after) (Err c.in_err-held_finish-in-None.field-0.0)
    (none-read now.count before.buffer.items (c.in-None.ensures.none refl)) h.ends (gone _ _ c.take.ensures.after)))

pub returns-in_ok-held_finish-in-None-clause-call : goal.returns-in_ok-held_finish-in-None-clause-call
returns-in_ok-held_finish-in-None-clause-call g c =
    let before = c.args.self.now in
    let now = c.in-Some-Some in
    let h = rw c.in_ok-held_finish-in-None.was at c.held_finish.ensures in
    held-step _ h.found h.left _ _ _ h.listed (step-ended _ _ _ (cleaner_of g.T.Cutter.told now.cleaner) _ _
    (take now.count before.buffer.items)
    (mapped _ before.cleaner c.take.result now.cleaner c.take.ensures.value now.is-0)
    (mapped _ before.ready c.take-2.result now.count c.take-2.ensures.value now.is-1)
    refl (gone _ _ c.take-2.ensures.after) (Ok c.in_ok-held_finish-in-None.field-0)
    (none-read now.count before.buffer.items (c.in-None.ensures.none refl)) h.ends (gone _ _ c.take.ensures.after))

pub returns-in_err-add_data_shared-in-Some-clause-call : goal.returns-in_err-add_data_shared-in-Some-clause-call
returns-in_err-add_data_shared-in-Some-clause-call g c =
    let e : c.from_residual-in_err-add_data_shared-in-Some.result ≡ Err c.in_err-add_data_shared-in-Some.field-0.0 =
    err-of _ _ c.from_residual-in_err-add_data_shared-in-Some.ensures in
    let before = c.args.self.now in
    let now = c.in-Some-Some in
    let ready = sym c.take-2.ensures.value ∙ now.is-1 in
    let most = rw ready at before.within in
    let within : now.count ≤ length before.buffer.items =
    omega (arith, before.room, most, before.buffer.ok.0) in
    let h = rw (c.in-Some.ensures.piece, c.deref.ensures.value, c.in_err-add_data_shared-in-Some.was) at c.add_data_shared.ensures in
    rw e (held-step _ (record { session = h.found; calls = h.before }) (record { session = h.left; calls = h.after }) _ _ _
    h.listed (step-failed _ _ _ (cleaner_of g.T.Cutter.told now.cleaner) _ _
    (take now.count before.buffer.items)
    (mapped _ before.cleaner c.take.result now.cleaner c.take.ensures.value now.is-0)
    (mapped _ before.ready c.take-2.result now.count c.take-2.ensures.value now.is-1)
    refl (gone _ _ c.take-2.ensures.after) (cleaner_of g.T.Cutter.told c.add_data_shared.new.self)
    c.in_err-add_data_shared-in-Some.field-0.0 (some-read now.count before.buffer.items c.in-Some.ensures.some within) (record { adds = h.adds; tells = h.tells; grows = h.grows; calls = h.calls })
    (gone _ _ c.take.ensures.after)))

pub returns-in_ok-add_data_shared-in-Some-clause-call : goal.returns-in_ok-add_data_shared-in-Some-clause-call
returns-in_ok-add_data_shared-in-Some-clause-call g c =
    let before = c.args.self.now in
    let now = c.in-Some-Some in
    let ready = sym c.take-2.ensures.value ∙ now.is-1 in
    let most = rw ready at before.within in
    let within : now.count ≤ length before.buffer.items =
    omega (arith, before.room, most, before.buffer.ok.0) in
    let h = rw (c.in-Some.ensures.piece, c.deref.ensures.value, c.in_ok-add_data_shared-in-Some.was) at c.add_data_shared.ensures in
    held-step _ (record { session = h.found; calls = h.before }) (record { session = h.left; calls = h.after }) _ _ _
    h.listed (step-fed _ _ _ (cleaner_of g.T.Cutter.told now.cleaner) _ _
    (take now.count before.buffer.items)
    (mapped _ before.cleaner c.take.result now.cleaner c.take.ensures.value now.is-0)
    (mapped _ before.ready c.take-2.result now.count c.take-2.ensures.value now.is-1)
    refl (gone _ _ c.take-2.ensures.after) (cleaner_of g.T.Cutter.told c.add_data_shared.new.self)
    (some-read now.count before.buffer.items c.in-Some.ensures.some within) (record { adds = h.adds; tells = h.tells; grows = h.grows; calls = h.calls }) refl)
