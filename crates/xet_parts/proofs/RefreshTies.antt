-- The ties after the URLs of a plan were asked for again.
use Rattle.std.proofs.Common.{◌≡◌, ℕ, Bool, List, [], ◌∷◌, None, Ok}
use Rattle.xet_base.specs.declared.cas_types.FileRange.{FileRange}
use Rattle.xet_outside.specs.declared.plan.Plan.{Plan}
use Rattle.xet_outside.specs.declared.plan.PlanAnswer.TheVariants.{Found}
use Rattle.xet_outside.specs.declared.said.Said.TheVariants as said
use Rattle.xet_outside.specs.Told.{ClientTold}
use Rattle.xet_blocks.specs.declared.reconstruction_terms.file_term.TermBlock.{TermBlock}
use Rattle.xet_events.specs.declared.event.Event.{Event}
use Rattle.xet_ties.specs.History.{range_at}
use Rattle.xet_ties.specs.Saids.{InStep, IsPlanAccepted}
use Rattle.xet_ties.specs.Setup.{RunTold, Setup}
use Rattle.xet_ties.specs.Moves.{heard_first}
use Rattle.xet_ties.specs.Ties.{Slack, Ties}
use Rattle.xet_ties.specs.PartCalls.{plan_refresh}
use Rattle.xet_ties.proofs.CallerLemmas.{refresh_ties}
use Rattle.xet_parts.specs.PlanRefreshes.{RefreshPlanCall, again}

-- where it was recorded nothing is lost
pub refreshed_ties : (g : Setup) (b at : RunTold) (es fs : List Event) (sl : Slack) (p : ℕ) (t u : TermBlock) (multi : Bool) (c n : ClientTold) (cs : List ClientTold)
    → at.clients ≡ c ∷ cs → (call : RefreshPlanCall t u c n es fs p multi (Ok tt)) → sl.lost ≡ [] → InStep sl.heard → range_at es p ≡ t.urls.byte_range ∷ [] → t.urls.file_hash ≡ g.file
    → (pl : Plan) (q : FileRange) → IsPlanAccepted g sl.heard pl q → again t multi ≡ plan_refresh g pl q
    → Ties g b at es None sl
    → (let heard = heard_first ((g.file, t.urls.byte_range) ∷ []) (said.Plan (Found call.took.answered.plan) ∷ []) sl.heard in Ties g b (record at { clients = n ∷ cs }) fs None (record sl { heard = heard; lost = [] }) × InStep heard)
refreshed_ties g b at es fs sl p t u multi c n cs is call none step at_range file pl q accepted own ties =
    refresh_ties g b at es fs sl p (again t multi) u.urls.retrieval_urls c n cs is call.may call.took.answered call.recorded none step at_range call.stale file pl q accepted own ties
