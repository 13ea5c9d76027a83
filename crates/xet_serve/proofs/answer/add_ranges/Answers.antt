use Rattle.std.proofs.Common.{◌≡◌, get_or}
use Rattle.std.specs.Prelude.{Err}
use Rattle.std.proofs.lemmas.List.{get_or_default}
use Rattle.xet_base.proofs.CallerLemmas.{err-of}
use Rattle.xet_base.specs.declared.cas_types.FileRange.{FileRange}
use Rattle.xet_serve.proofs.Ranges.{ranges_more, ranges_short, ranges_start, ranges_stop}
use Rattle.xet_serve.proofs.answer.add_ranges.Goals as goal

abbrev none : FileRange
none = record { start = 0; end = 0 }

pub loop-range-init : goal.loop-range-init
loop-range-init g c = ranges_start c.args.file c.args.ranges.now _ _

pub returns-in_err-failed : goal.returns-in_err-failed
returns-in_err-failed g c =
    let a = c.args in
    let i = c.loop-range.range-index in
    let r = get_or a.ranges.now i none in
    let e : c.from_residual.result ≡ Err c.in_err-failed.field-0.0 = err-of _ _ c.from_residual.ensures in
    rw e (ranges_short a.config.now.tries a.file a.ranges.now i _ _ _ _ _ _ c.loop-range.invariant c.loop-range-test.true r
    (get_or_default a.ranges.now i none r c.loop-range-test.true) _ (rw c.in_err-failed.was at c.fetch_range.ensures))

pub returns-in_default : goal.returns-in_default
returns-in_default g c =
    let a = c.args in
    let i = c.loop-range.range-index in
    let r = get_or a.ranges.now i none in
    ranges_stop a.config.now.tries a.file a.ranges.now i _ _ _ _ _ _ c.loop-range.invariant c.loop-range-test.true r
    (get_or_default a.ranges.now i none r c.loop-range-test.true) c.in_ok-failed.failed c.in_default.not-Whole
    (rw c.in_ok-failed.was at c.fetch_range.ensures)

pub loop-range-preserved : goal.loop-range-preserved
loop-range-preserved g c =
    let a = c.args in
    let i = c.loop-range.range-index in
    let r = get_or a.ranges.now i none in
    ranges_more a.config.now.tries a.file a.ranges.now i _ _ _ _ _ _ c.loop-range.invariant c.loop-range-test.true r
    (get_or_default a.ranges.now i none r c.loop-range-test.true)
    (rw (c.in_ok-failed.was, c.in-Whole.is) at c.fetch_range.ensures)
