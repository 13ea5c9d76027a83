use Rattle.std.proofs.Common.{◌≡◌, codes, length, rules}
use Rattle.std.specs.Prelude.{Err}
use Rattle.xet_base.proofs.CallerLemmas.{err-of}
use Rattle.xet_serve_lines.specs.Replies.{number_line}
use Rattle.xet_serve_lines.specs.Requests.{asked}
use Rattle.xet_serve.proofs.Goings.{goes_same}
use Rattle.xet_serve.proofs.Requests.{failed_by, missing_by, request_short, runs_whole}
use Rattle.xet_serve.proofs.answer.answer_by_runs.Goals as goal

pub returns-in_err-add_number_line : goal.returns-in_err-add_number_line
returns-in_err-add_number_line g c =
    let e : c.from_residual.result ≡ Err c.in_err-add_number_line.field-0.0 = err-of _ _ c.from_residual.ensures in
    rw e (request_short _ _ _ _ _ _ (goes_same _))

pub returns-in_err-add_ranges : goal.returns-in_err-add_ranges
returns-in_err-add_ranges g c =
    let e : c.from_residual-in_err-add_ranges.result ≡ Err c.in_err-add_ranges.field-0.0 =
    err-of _ _ c.from_residual-in_err-add_ranges.ensures in
    rw e (request_short _ _ _ _ _ _ c.add_ranges.ensures.goes_on)

pub returns-in-Whole : goal.returns-in-Whole
returns-in-Whole g c =
    let head : c.add_number_line.new.out.items ≡ number_line (codes "OK") (length c.args.request.now.ranges.items) = search rules in
    let ranges : c.as_slice-ranges.result.now ≡ c.args.request.now.ranges.items = search rules in
    runs_whole c.args.config.now.tries (asked c.args.request.now) _ _ _ c.requires.short
    (rw (head, ranges, c.in_ok-add_ranges.was, c.in-Whole.is) at c.add_ranges.ensures)

pub returns-in-Missing : goal.returns-in-Missing
returns-in-Missing g c =
    let head : c.add_number_line.new.out.items ≡ number_line (codes "OK") (length c.args.request.now.ranges.items) = search rules in
    let ranges : c.as_slice-ranges.result.now ≡ c.args.request.now.ranges.items = search rules in
    missing_by c.args.config.now.tries (asked c.args.request.now) _ _ _ c.requires.short _ _
    (rw (head, ranges, c.in_ok-add_ranges.was, c.in-Missing.is) at c.add_ranges.ensures) c.answer_missing.ensures

pub returns-in-Failed : goal.returns-in-Failed
returns-in-Failed g c =
    let head : c.add_number_line.new.out.items ≡ number_line (codes "OK") (length c.args.request.now.ranges.items) = search rules in
    let ranges : c.as_slice-ranges.result.now ≡ c.args.request.now.ranges.items = search rules in
    failed_by c.args.config.now.tries (asked c.args.request.now) _ _ _ c.requires.short _ c.in-Failed.number _
    (rw (head, ranges, c.in_ok-add_ranges.was, c.in-Failed.is) at c.add_ranges.ensures) c.answer_failed.ensures
