use Rattle.std.proofs.Common.{◌≡◌, Err, None, Some, rules, subst, sym}
use Rattle.xet_gaps.specs.Gaps.{Gaps}
use Rattle.xet_reconstruct.specs.Lent.{lent_of}
use Rattle.xet_ties.proofs.CallerLemmas.{refused_is}
use Rattle.xet_ties.specs.Setup.{setup_of}
use Rattle.xet_resume.specs.declared.resume_error.ResumeError.TheVariants as resume_error
use Rattle.xet_resume.specs.Fetches.{FetchCall}
use Rattle.xet_resume.proofs.Calls.{called, no_room, refused}
use Rattle.xet_resume.proofs.fetch.fetch_range.Goals as goal

pub returns-in-Some : goal.returns-in-Some
returns-in-Some g c =
    let a = c.args in
    let b = lent_of g.C.Client.told g.K.ChunkCache.told g.X.CancelSignal.told g.F.Sink.told a.clients.now a.cache.now
    a.cancel.now a.file.now in
    refused a.config.now a.range a.gaps.now b c.in-Some.setting
    (refused_is g.C.Client.told (setup_of a.gaps.now.file a.range a.config.now) a.clients.now (Some c.in-Some.setting)
    c.in-Some.ensures)

pub returns-in_default : goal.returns-in_default
returns-in_default g c =
    let a = c.args in
    let b = lent_of g.C.Client.told g.K.ChunkCache.told g.X.CancelSignal.told g.F.Sink.told a.clients.now a.cache.now
    a.cancel.now a.file.now in
    let same : c.take_roomy.new.self ≡ c.args.gaps.now = search rules in
    subst (λ (z : Gaps). FetchCall a.config.now a.range a.gaps.now z b b (Err resume_error.OutOfMemory)) (sym same)
    (no_room a.config.now a.range a.gaps.now b
    (refused_is g.C.Client.told (setup_of a.gaps.now.file a.range a.config.now) a.clients.now None c.in-None.ensures))

pub returns : goal.returns
returns g c =
    let a = c.args in
    let n = c.fill-filled.new in
    let b = lent_of g.C.Client.told g.K.ChunkCache.told g.X.CancelSignal.told g.F.Sink.told a.clients.now a.cache.now
    a.cancel.now a.file.now in
    let after = lent_of g.C.Client.told g.K.ChunkCache.told g.X.CancelSignal.told g.F.Sink.told n.clients n.cache n.cancel
    n.file in
    let same : c.in-Ok.roomy ≡ c.args.gaps.now = search rules in
    called a.config.now a.range a.gaps.now c.in-Ok.roomy c.mark.result b after c.touched.result.now c.file.result
    c.fill-filled.result.reached c.fill-filled.result.answer same c.touched.ensures.all c.file.ensures c.touched.ensures.parts
    c.fill-filled.ensures.fills c.fill-filled.ensures.counted c.mark.ensures
    (refused_is g.C.Client.told (setup_of a.gaps.now.file a.range a.config.now) a.clients.now None c.in-None.ensures)
