use Rattle.std.proofs.Common.{rules, refl, ◌+◌, ◌<◌, ◌≤◌, length}
use Rattle.xet_unordered_streams.proofs.AheadTerms.{term_none, term_some}
use Rattle.xet_unordered_streams.proofs.ahead_terms.term_in.Goals as goal

pub returns-then-at-len : goal.returns-then-at-len
returns-then-at-len c =
    let ls = c.args.plans.now.items in
    let h : length ls ≤ c.seek-at.result.plan = search rules in
    term_none ls c.args.passed c.args.skip (c.args.passed + c.args.skip) c.seek-at.result.plan c.seek-at.result.term refl
    c.seek-at.ensures.rest h

pub returns : goal.returns
returns c =
    let ls = c.args.plans.now.items in
    let h : c.seek-at.result.plan < length ls = search rules in
    term_some ls c.args.passed c.args.skip (c.args.passed + c.args.skip) c.seek-at.result.plan c.seek-at.result.term
    c.index.result.now c.as_slice.result.now refl c.seek-at.ensures.rest h c.index.ensures c.as_slice.ensures
    c.seek-at.ensures.inside
