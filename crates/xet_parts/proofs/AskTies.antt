-- The ties after a plan was asked for.
use Rattle.std.proofs.Common.{◌≡◌, ℕ, ◌+◌, List, [], ◌∷◌, None, Ok, Err, sym, subst, ⊎_elim}
use Rattle.xet_base.specs.declared.cas_types.FileRange.{FileRange}
use Rattle.xet_base.specs.declared.unique_id.UniqueId.{UniqueId}
use Rattle.xet_outside.specs.declared.said.Said.TheVariants as said
use Rattle.xet_outside.specs.Told.{ClientTold}
use Rattle.xet_error.specs.declared.error.FileReconstructionError.{FileReconstructionError}
use Rattle.xet_events.specs.declared.event.Event.{Event}
use Rattle.xet_events.specs.Events.{planned}
use Rattle.xet_terms.specs.Managers.{Manager}
use Rattle.xet_ties.specs.Saids.{InStep}
use Rattle.xet_ties.specs.Setup.{RunTold, Setup}
use Rattle.xet_ties.specs.Moves.{heard_first}
use Rattle.xet_ties.specs.PartCalls.{AskedShort, plan_query}
use Rattle.xet_ties.specs.Ties.{Slack, Ties, IsNextQuery}
use Rattle.xet_ties.proofs.CallerLemmas.{ask_short, ask_ties}
use Rattle.xet_parts.specs.PlanAsks.{AskPlanCall, AskedPlan, PlanFails, QueryFails}

-- its query was answered and is recorded, so nothing is lost
pub asked_ties : (g : Setup) (b at : RunTold) (es fs : List Event) (sl : Slack) (spare : ℕ) (c n : ClientTold) (cs : List ClientTold) (m now : Manager) (q : FileRange) (id : UniqueId)
    → at.clients ≡ c ∷ cs → (ok : AskedPlan m now c n es fs (plan_query g q id)) → sl.lost ≡ [] → sl.spare ≡ spare + 1 → InStep sl.heard → IsNextQuery g es q → (planned es ≡ [] → q.start ≡ g.range.start)
    → Ties g b at es None sl
    → (let heard = heard_first ((g.file, q) ∷ []) (said.Plan ok.call.made.plan ∷ []) sl.heard in Ties g b (record at { clients = n ∷ cs }) fs None (record sl { heard = heard; lost = []; spare = spare }) × InStep heard)
asked_ties g b at es fs sl spare c n cs m now q id is ok none polls step next first_is t =
    ask_ties g b at es fs sl spare c n cs q id ok.answer is ok.call ok.took.recorded none polls step next first_is t

-- where it isn't recorded its query is lost
pub ask_fails_ties : (g : Setup) (b at : RunTold) (es fs : List Event) (sl : Slack) (c n : ClientTold) (cs : List ClientTold) (m now : Manager) (q : FileRange) (id : UniqueId) (e : FileReconstructionError)
    → at.clients ≡ c ∷ cs → AskPlanCall m now c n es fs (plan_query g q id) (Err e) → sl.lost ≡ [] → IsNextQuery g es q → Ties g b at es None sl → AskedShort g b at fs sl (n ∷ cs)
ask_fails_ties g b at es fs sl c n cs m now q id e is call none next t =
    ⊎_elim
    (λ (h : QueryFails m now c n es fs (plan_query g q id) e). subst (λ (l : List Event). AskedShort g b at l sl (n ∷ cs)) (sym h.unrecorded) (ask_short g b at es sl c n cs q id (Err e) is none h.call next t))
    (λ (h : PlanFails m now c n es fs (plan_query g q id) e). subst (λ (l : List Event). AskedShort g b at l sl (n ∷ cs)) (sym h.left.unrecorded) (ask_short g b at es sl c n cs q id (Ok h.answer) is none h.call next t))
    call.err
