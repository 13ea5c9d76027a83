use Rattle.std.proofs.Common.{refl, arith, sym, ◌≡◌, ◌≤◌, ◌∙◌, length, take}
use Rattle.std.specs.Prelude.{Err, Ok}
use Rattle.xet_base.proofs.CallerLemmas.{err-of}
use Rattle.xet_clean.specs.Showing.{cleaner_of}
use Rattle.xet_jobs.proofs.Stepping.{gone, mapped, none-read, some-read, step-ended, step-failed, step-fed}
use Rattle.xet_jobs.proofs.job.UploadJob.step.Goals as goal

pub returns-in_err-finish-in-None-clause-call : goal.returns-in_err-finish-in-None-clause-call
returns-in_err-finish-in-None-clause-call g c =
    let e : c.from_residual.result ≡ Err c.in_err-finish-in-None.field-0.0 = err-of _ _ c.from_residual.ensures in
    let before = c.args.self.now in
    let now = c.in-Some-Some in
    rw e (step-ended _ _ _ (cleaner_of g.T.Cutter.told now.cleaner) _ _ (take now.count before.buffer.items)
    (mapped _ before.cleaner c.take.result now.cleaner c.take.ensures.value now.is-0)
    (mapped _ before.ready c.take-2.result now.count c.take-2.ensures.value now.is-1)
    refl (gone _ _ c.take-2.ensures.after) (Err c.in_err-finish-in-None.field-0.0)
    (none-read now.count before.buffer.items (c.in-None.ensures.none refl)) (record {
      finishes = c.in_err-finish-in-None.ensures.ends;
      refused = c.in_err-finish-in-None.ensures.refused;
      so = c.in_err-finish-in-None.ensures.so;
    }) (gone _ _ c.take.ensures.after))

pub returns-in_ok-finish-in-None-clause-call : goal.returns-in_ok-finish-in-None-clause-call
returns-in_ok-finish-in-None-clause-call g c =
    let before = c.args.self.now in
    let now = c.in-Some-Some in
    step-ended _ _ _ (cleaner_of g.T.Cutter.told now.cleaner) _ _ (take now.count before.buffer.items)
    (mapped _ before.cleaner c.take.result now.cleaner c.take.ensures.value now.is-0)
    (mapped _ before.ready c.take-2.result now.count c.take-2.ensures.value now.is-1)
    refl (gone _ _ c.take-2.ensures.after) (Ok c.in_ok-finish-in-None.field-0)
    (none-read now.count before.buffer.items (c.in-None.ensures.none refl)) (record {
      finishes = c.in_ok-finish-in-None.ensures.ends;
      refused = c.in_ok-finish-in-None.ensures.refused;
      so = c.in_ok-finish-in-None.ensures.so;
    }) (gone _ _ c.take.ensures.after)

pub returns-in_err-add_data-in-Some-clause-call : goal.returns-in_err-add_data-in-Some-clause-call
returns-in_err-add_data-in-Some-clause-call g c =
    let e : c.from_residual-in_err-add_data-in-Some.result ≡ Err c.in_err-add_data-in-Some.field-0.0 =
    err-of _ _ c.from_residual-in_err-add_data-in-Some.ensures in
    let before = c.args.self.now in
    let now = c.in-Some-Some in
    let ready = sym c.take-2.ensures.value ∙ now.is-1 in
    let most = rw ready at before.within in
    let within : now.count ≤ length before.buffer.items =
    omega (arith, before.room, most, before.buffer.ok.0) in
    rw e (step-failed _ _ _ (cleaner_of g.T.Cutter.told now.cleaner) _ _ (take now.count before.buffer.items)
    (mapped _ before.cleaner c.take.result now.cleaner c.take.ensures.value now.is-0)
    (mapped _ before.ready c.take-2.result now.count c.take-2.ensures.value now.is-1)
    refl (gone _ _ c.take-2.ensures.after) (cleaner_of g.T.Cutter.told c.add_data.new.self)
    c.in_err-add_data-in-Some.field-0.0 (some-read now.count before.buffer.items c.in-Some.ensures.some within) (record {
      adds = rw (c.in-Some.ensures.piece, c.deref.ensures.value) at c.in_err-add_data-in-Some.ensures.adds;
      tells = rw (c.in-Some.ensures.piece, c.deref.ensures.value, c.in_err-add_data-in-Some.was) at c.add_data.ensures.tells;
      grows = tt;
      calls = c.add_data.ensures.calls;
    }) (gone _ _ c.take.ensures.after))

pub returns-in_ok-add_data-in-Some-clause-call : goal.returns-in_ok-add_data-in-Some-clause-call
returns-in_ok-add_data-in-Some-clause-call g c =
    let before = c.args.self.now in
    let now = c.in-Some-Some in
    let ready = sym c.take-2.ensures.value ∙ now.is-1 in
    let most = rw ready at before.within in
    let within : now.count ≤ length before.buffer.items =
    omega (arith, before.room, most, before.buffer.ok.0) in
    step-fed _ _ _ (cleaner_of g.T.Cutter.told now.cleaner) _ _ (take now.count before.buffer.items)
    (mapped _ before.cleaner c.take.result now.cleaner c.take.ensures.value now.is-0)
    (mapped _ before.ready c.take-2.result now.count c.take-2.ensures.value now.is-1)
    refl (gone _ _ c.take-2.ensures.after) (cleaner_of g.T.Cutter.told c.add_data.new.self)
    (some-read now.count before.buffer.items c.in-Some.ensures.some within) (record {
      adds = rw (c.in-Some.ensures.piece, c.deref.ensures.value) at c.in_ok-add_data-in-Some.ensures.adds;
      tells = rw (c.in-Some.ensures.piece, c.deref.ensures.value, c.in_ok-add_data-in-Some.was) at c.add_data.ensures.tells;
      grows = rw (c.in-Some.ensures.piece, c.deref.ensures.value, c.in_ok-add_data-in-Some.was) at c.add_data.ensures.grows;
      calls = c.add_data.ensures.calls;
    }) refl
