use Rattle.xet_ties.proofs.AskTies.{ask_ties, refresh_ties}
use Rattle.std.proofs.Common.{[], ◌∷◌, ◌++◌, refl}
use Rattle.xet_outside.specs.declared.plan.PlanAnswer.TheVariants.{Found}
use Rattle.xet_outside.specs.declared.said.Said.TheVariants as said
use Rattle.xet_events.specs.declared.event.Event.TheVariants.{Refreshed}
use Rattle.xet_ties.specs.Moves.{heard_first}
use Rattle.xet_ties.specs.PartCalls.{plan_event}
use Rattle.xet_ties.proofs.Heard.{grew_first}
use Rattle.xet_ties.proofs.laws.queries_are_tied.Goals as goal

pub returns : goal.returns
returns c = record {
  plan = λ g b at es sl spare c n cs q id o is call lost polls step cuts first_is t. let r = ask_ties g b at es (es ++ plan_event es q o ∷ []) sl spare c n cs q id o is call refl lost polls step cuts first_is t in (heard_first ((g.file, q) ∷ []) (said.Plan call.made.plan ∷ []) sl.heard, r.0, r.1, grew_first ((g.file, q) ∷ []) (said.Plan call.made.plan ∷ []) sl.heard);
  refresh = λ g b at es sl p r us c n cs plan query is may new lost step range stale file accepted own t. let u = refresh_ties g b at es (es ++ Refreshed p ∷ []) sl p r us c n cs is may new refl lost step range stale file plan query accepted own t in (heard_first ((g.file, r.range) ∷ []) (said.Plan (Found new.plan) ∷ []) sl.heard, u.0, u.1, grew_first ((g.file, r.range) ∷ []) (said.Plan (Found new.plan) ∷ []) sl.heard);
}
