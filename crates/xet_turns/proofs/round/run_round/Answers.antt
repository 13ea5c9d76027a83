use Rattle.xet_turns.proofs.RoundFetches.{fetching_some}
use Rattle.xet_turns.proofs.RoundJoins.{round_leads, turn_done, turn_refused}
use Rattle.xet_turns.proofs.RoundMays.{can_fetch, may_record, some_clients}
use Rattle.xet_turns.proofs.round.run_round.Goals as goal

pub fetch_blocks-requires-clause-parts : goal.fetch_blocks-requires-clause-parts
fetch_blocks-requires-clause-parts g c κs within = c.requires.parts

pub fetch_blocks-requires-clause-some : goal.fetch_blocks-requires-clause-some
fetch_blocks-requires-clause-some g c κs within = fetching_some g.C.Client.told c.args.clients.now
    (some_clients _ _ _ _ _ _ _ c.requires.can)

pub fetch_blocks-requires-clause-requests : goal.fetch_blocks-requires-clause-requests
fetch_blocks-requires-clause-requests g c κs within = can_fetch _ _ _ _ _ _ _ c.requires.can

pub take_outcome-requires-clause-lanes : goal.take_outcome-requires-clause-lanes
take_outcome-requires-clause-lanes g c = c.in-Ok.ensures.turn.ok.lanes

pub take_outcome-requires-clause-allowed : goal.take_outcome-requires-clause-allowed
take_outcome-requires-clause-allowed g c = may_record _ _ _ _ _ _ _ c.in-Ok.joined c.requires.can
    c.in-Ok.ensures.turn.ok

pub returns-in-Err-clause-turn : goal.returns-in-Err-clause-turn
returns-in-Err-clause-turn g c = turn_refused _ _ _ _ _ _ _ _ _ c.in-Err.error c.in-Err.ensures.turn.err

pub returns-in-Err-clause-leads : goal.returns-in-Err-clause-leads
returns-in-Err-clause-leads g c =
    round_leads _ _ _ _ _ _ _ _ _ _ _ (turn_refused g.S.Sink.told c.args.tries c.args.places.now c.args.lengths _ _ _
    c.args.leader.now _ c.in-Err.error c.in-Err.ensures.turn.err)

pub returns-in-Err-clause-parts : goal.returns-in-Err-clause-parts
returns-in-Err-clause-parts g c = c.in-Err.ensures.parts

pub returns-clause-turn : goal.returns-clause-turn
returns-clause-turn g c =
    turn_done _ _ _ _ _ _ _ _ _ c.count_fetches.new.leader _ c.in-Ok.joined c.take_outcome.result
    c.in-Ok.ensures.turn.ok c.count_fetches.ensures c.take_outcome.ensures.took c.take_outcome.ensures.fails

pub returns-clause-leads : goal.returns-clause-leads
returns-clause-leads g c =
    round_leads _ _ _ _ _ _ _ _ _ _ _
    (turn_done _ _ _ _ _ _ _ _ _ c.count_fetches.new.leader _ c.in-Ok.joined c.take_outcome.result
    c.in-Ok.ensures.turn.ok c.count_fetches.ensures c.take_outcome.ensures.took c.take_outcome.ensures.fails)

pub returns-clause-parts : goal.returns-clause-parts
returns-clause-parts g c = c.in-Ok.ensures.parts
