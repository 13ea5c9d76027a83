use Rattle.std.proofs.Common.{refl}
use Rattle.xet_turns.proofs.JoinedRuns.{look_fails, may_poll, poll_fails, polled_as, window_fails, window_made}
use Rattle.xet_turns.proofs.JoinSteps.{looked_turn}
use Rattle.xet_turns.proofs.joining.prepare.Goals as goal

pub returns-in-Err-clause-leads : goal.returns-in-Err-clause-leads
returns-in-Err-clause-leads g c = look_fails _ _ _ _ _ _ _ _ _ c.in-Err.error c.in-Err.ensures.leads

pub returns-in-Err-poll_for-clause-leads : goal.returns-in-Err-poll_for-clause-leads
returns-in-Err-poll_for-clause-leads g c = poll_fails _ _ _ _ _ _ _ _ _ _ c.in-Ok.places c.in-Err-poll_for.error
    c.in-Ok.ensures.leads (may_poll _ _ _ _ c.in-Err-poll_for.ensures)

pub returns-in-Err-window-clause-leads : goal.returns-in-Err-window-clause-leads
returns-in-Err-window-clause-leads g c =
    window_fails _ _ _ _ _ _ _ _ _ _ _ c.in-Ok.places c.in-Err-window.error c.in-Ok.ensures.leads
    (polled_as _ _ _ _ _ c.len.ensures c.in-Ok-poll_for.ensures) c.in-Err-window.ensures.leads

pub returns-in-Err-window-clause-sink : goal.returns-in-Err-window-clause-sink
returns-in-Err-window-clause-sink g c = λ o. (c.in-Err-window.ensures.turn.err o).1

pub returns-in-Ok-window-clause-leads : goal.returns-in-Ok-window-clause-leads
returns-in-Ok-window-clause-leads g c =
    window_made _ _ _ _ _ _ _ _ _ _ _ c.in-Ok.places c.in-Ok-window.lengths c.in-Ok.ensures.turn
    c.in-Ok.ensures.leads (polled_as _ _ _ _ _ c.len.ensures c.in-Ok-poll_for.ensures) c.in-Ok-window.ensures.leads

pub look_up_missing-requires : goal.look_up_missing-requires
look_up_missing-requires g c = c.requires

pub returns-in-Err-clause-turn : goal.returns-in-Err-clause-turn
returns-in-Err-clause-turn g c = looked_turn _ _ _ _ _ _ _ _ _ _ c.in-Err.ensures.turn tt

pub returns-in-Err-clause-sink : goal.returns-in-Err-clause-sink
returns-in-Err-clause-sink g c = λ o. refl

pub returns-in-Err-poll_for-clause-turn : goal.returns-in-Err-poll_for-clause-turn
returns-in-Err-poll_for-clause-turn g c = looked_turn _ _ _ _ _ _ _ _ _ _ c.in-Ok.ensures.turn tt

pub returns-in-Err-poll_for-clause-sink : goal.returns-in-Err-poll_for-clause-sink
returns-in-Err-poll_for-clause-sink g c = λ o. refl

pub returns-in-Err-window-clause-turn : goal.returns-in-Err-window-clause-turn
returns-in-Err-window-clause-turn g c = looked_turn _ _ _ _ _ _ _ _ _ _ c.in-Ok.ensures.turn tt

pub returns-in-Ok-window-clause-turn : goal.returns-in-Ok-window-clause-turn
returns-in-Ok-window-clause-turn g c = looked_turn _ _ _ _ _ _ _ _ _ _ c.in-Ok.ensures.turn
    (polled_as _ _ _ _ _ c.len.ensures c.in-Ok-poll_for.ensures)

pub returns-in-Ok-window-clause-sink : goal.returns-in-Ok-window-clause-sink
returns-in-Ok-window-clause-sink g c = tt
