use Rattle.std.proofs.Common.{◌≡◌, ◌<◌, ◌≤◌, ◌∙◌, ap, sym, get_or, length, true, false}
use Rattle.std.specs.Option.{is_some}
use Rattle.xet_lane.specs.Fetches.{last_error}
use Rattle.xet_lane.specs.JoinErrors.{end_error}
use Rattle.xet_lane.specs.Ends.{ended}
use Rattle.xet_lane.proofs.FirstErrors.{error_here, no_error_here, no_errors}
use Rattle.xet_lane.proofs.joined.first_lane_error.Goals as goal

pub returns-then-is_some : goal.returns-then-is_some
returns-then-is_some c =
    let below : c.loop-end.end-index < length c.args.ends.now = c.loop-end-test.true in
    let here : get_or c.args.ends.now c.loop-end.end-index c.end-item.result ≡ c.end-item.result = sym c.end-item.is in
    let is : c.last_error-error.result ≡ end_error (ended c.end-item.result) =
    c.last_error-error.ensures ∙ ap last_error c.as_slice.ensures.value in
    let some : is_some c.last_error-error.result ≡ true = sym c.is_some.ensures ∙ c.if-is_some.true in
    sym (error_here _ _ _ _ below here is some) ∙ c.loop-end.invariant

pub loop-end-preserved : goal.loop-end-preserved
loop-end-preserved c =
    let below : c.loop-end.end-index < length c.args.ends.now = c.loop-end-test.true in
    let here : get_or c.args.ends.now c.loop-end.end-index c.end-item.result ≡ c.end-item.result = sym c.end-item.is in
    let is : c.last_error-error.result ≡ end_error (ended c.end-item.result) =
    c.last_error-error.ensures ∙ ap last_error c.as_slice.ensures.value in
    let none : is_some c.last_error-error.result ≡ false = sym c.is_some.ensures ∙ c.if-is_some.false in
    sym (no_error_here _ _ _ _ below here is none) ∙ c.loop-end.invariant

pub returns : goal.returns
returns c =
    let over : length c.args.ends.now ≤ c.loop-end.end-index = c.loop-end-test.false in
    sym (no_errors _ _ over) ∙ c.loop-end.invariant
