use Rattle.std.proofs.Common.{◌≡◌, ◌∙◌, ◌+◌, ◌-◌, ◌<◌, ◌≤◌, ◌^◌, ◌++◌, ◌∷◌, [], List, ℕ, None, Some, Ok, ap, arith, drop, get_or, length, rules, subst}
use Rattle.std.proofs.Common.{sym, take}
use Rattle.std.proofs.lemmas.List.{take_all}
use Rattle.xet_base.specs.declared.cas_types.FileRange.{FileRange}
use Rattle.xet_gaps.specs.Gaps.{missing_bytes, parts_of}
use Rattle.xet_reconstruct.specs.Lent.{lent_of}
use Rattle.xet_terms.specs.Settings.{failing_setting}
use Rattle.xet_resume.specs.Fills.{Fills}
use Rattle.xet_resume.specs.steps.Filling.{AllDone, common}
use Rattle.xet_resume.proofs.Chains.{all_filled, done_more, ended_at}
use Rattle.xet_resume.proofs.GapSteps.{count_more, count_within, parts_more, parts_split}
use Rattle.xet_resume.proofs.GoingOn.{goes_run, same_count}
use Rattle.xet_resume.proofs.filling.fill.Goals as goal

abbrev none : FileRange
none = record { start = 0; end = 0 }

pub overflow_add-count : goal.overflow_add-count
overflow_add-count g c =
    let a = c.args in
    let i = c.loop-gap.gap-index in
    let part : c.cut-part.result ≡ common (get_or a.gaps.now i none) a.range = c.cut-part.ensures in
    let start = ap (λ (p : FileRange). p.start) part in
    let end = ap (λ (p : FileRange). p.end) part in
    let count = c.loop-gap.invariant.1 in
    let most = c.requires.are in
    let within = count_within a.range a.gaps.now i none c.requires.each c.loop-gap-test.true most.0 most.1 in
    let small : c.args.range.end < 2 ^ 64 = search rules in
    let size : (c.cut-part.result.end - c.cut-part.result.start)
    ≡ ((common (get_or a.gaps.now i none) a.range).end - (common (get_or a.gaps.now i none) a.range).start) =
    ap (λ (p : FileRange). p.end - p.start) part in
    omega (arith, size, count, within, small)

pub returns-in-Err-clause-fills : goal.returns-in-Err-clause-fills
returns-in-Err-clause-fills g c =
    let a = c.args in
    let i = c.loop-gap.gap-index in
    let now = c.loop-gap in
    let n = c.fill_part.new in
    let b = lent_of g.C.Client.told g.K.ChunkCache.told g.X.CancelSignal.told g.F.Sink.told a.clients.now a.cache.now
    a.cancel.now a.file.now in
    let between = lent_of g.C.Client.told g.K.ChunkCache.told g.X.CancelSignal.told g.F.Sink.told now.clients now.cache
    now.cancel now.file in
    let after = lent_of g.C.Client.told g.K.ChunkCache.told g.X.CancelSignal.told g.F.Sink.told n.clients n.cache n.cancel
    n.file in
    let part : c.cut-part.result ≡ common (get_or a.gaps.now i none) a.range = c.cut-part.ensures in
    let split = parts_split a.range a.gaps.now i none c.requires.each c.loop-gap-test.true
    ∙ ap (λ (p : FileRange). parts_of (take i a.gaps.now) a.range ++ p ∷ parts_of (drop (i + 1) a.gaps.now) a.range) (sym part) in
    subst (λ (l : List FileRange). Fills a.config.now a.file_hash l a.range.end b after
    (c.cut-part.result.start + c.in-Err.stopped.count) (Some c.in-Err.stopped.error)) (sym split)
    (ended_at a.config.now a.file_hash (parts_of (take i a.gaps.now) a.range) (parts_of (drop (i + 1) a.gaps.now) a.range)
    c.cut-part.result a.range.end c.in-Err.stopped.count b between after c.in-Err.stopped.error now.invariant.0
    (rw c.in-Err.is at c.fill_part.ensures))

pub loop-gap-preserved : goal.loop-gap-preserved
loop-gap-preserved g c =
    let a = c.args in
    let i = c.loop-gap.gap-index in
    let now = c.loop-gap in
    let n = c.fill_part.new in
    let b = lent_of g.C.Client.told g.K.ChunkCache.told g.X.CancelSignal.told g.F.Sink.told a.clients.now a.cache.now
    a.cancel.now a.file.now in
    let between = lent_of g.C.Client.told g.K.ChunkCache.told g.X.CancelSignal.told g.F.Sink.told now.clients now.cache
    now.cancel now.file in
    let after = lent_of g.C.Client.told g.K.ChunkCache.told g.X.CancelSignal.told g.F.Sink.told n.clients n.cache n.cancel
    n.file in
    let part : c.cut-part.result ≡ common (get_or a.gaps.now i none) a.range = c.cut-part.ensures in
    let done = rw c.in-Ok.is at c.fill_part.ensures in
    let more = parts_more a.range a.gaps.now i none c.requires.each c.loop-gap-test.true
    ∙ ap (λ (p : FileRange). parts_of (take i a.gaps.now) a.range ++ p ∷ []) (sym part) in
    let size : (c.cut-part.result.end - c.cut-part.result.start)
    ≡ ((common (get_or a.gaps.now i none) a.range).end - (common (get_or a.gaps.now i none) a.range).start) =
    ap (λ (p : FileRange). p.end - p.start) part in
    let count = now.invariant.1 in
    let next = count_more a.range a.gaps.now i none c.requires.each c.loop-gap-test.true in
    let goes = goes_run a.config.now a.file_hash c.cut-part.result between after
    (c.cut-part.result.end - c.cut-part.result.start) (Ok (c.cut-part.result.end - c.cut-part.result.start)) done in (
      subst (λ (l : List FileRange). AllDone a.config.now a.file_hash l b after) (sym more)
          (done_more a.config.now a.file_hash (parts_of (take i a.gaps.now) a.range) c.cut-part.result b between after
          now.invariant.0 done),
      omega (arith, size, count, next),
      ap (λ (k : ℕ). failing_setting k a.config.now.tries a.config.now.min_reconstruction_fetch_size
          a.config.now.max_reconstruction_fetch_size) (same_count between.clients after.clients goes.goes_on) ∙ now.invariant.2,
    )

pub returns-clause-fills : goal.returns-clause-fills
returns-clause-fills g c =
    let a = c.args in
    let i = c.loop-gap.gap-index in
    let now = c.loop-gap in
    let b = lent_of g.C.Client.told g.K.ChunkCache.told g.X.CancelSignal.told g.F.Sink.told a.clients.now a.cache.now
    a.cancel.now a.file.now in
    let after = lent_of g.C.Client.told g.K.ChunkCache.told g.X.CancelSignal.told g.F.Sink.told now.clients now.cache
    now.cancel now.file in
    let past = c.loop-gap-test.false in
    let all : length a.gaps.now ≤ i = omega (arith, past) in
    subst (λ (l : List FileRange). Fills a.config.now a.file_hash (parts_of l a.range) a.range.end b after a.range.end None)
    (take_all i a.gaps.now all)
    (all_filled a.config.now a.file_hash (parts_of (take i a.gaps.now) a.range) a.range.end b after now.invariant.0)
