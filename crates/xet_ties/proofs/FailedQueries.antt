-- The ties after a query that failed, or whose answer isn't recorded.
use Rattle.std.proofs.Common.{◌≡◌, ℕ, List, [], ◌∷◌, ◌++◌, true, refl, sym, subst, ◌∙◌, ap, inl, inr, ⊎_elim, None}
use Rattle.xet_base.specs.declared.cas_types.FileRange.{FileRange}
use Rattle.xet_base.specs.declared.merklehash.MerkleHash.{MerkleHash}
use Rattle.xet_outside.specs.declared.plan.PlanAnswer.{PlanAnswer}
use Rattle.xet_outside.specs.declared.said.Said.{Said}
use Rattle.xet_outside.specs.declared.said.Said.TheVariants as said
use Rattle.xet_outside.specs.Told.{ClientTold, Grew, Query}
use Rattle.xet_base.specs.declared.unique_id.UniqueId.{UniqueId}
use Rattle.xet_blocks.specs.TermBlockCalls.{Answer, AskedAtMostOnce, FromSaid, QueryAnswered, TermBlockCall}
use Rattle.xet_fetch.specs.Refreshes.{Answered, MayAsk, Refresh}
use Rattle.xet_events.specs.declared.event.Event.{Event}
use Rattle.xet_events.specs.Events.{is_stale}
use Rattle.xet_ties.specs.History.{range_at}
use Rattle.xet_ties.specs.InCall.{Exchange}
use Rattle.xet_ties.specs.Saids.{InStep, IsQueryAnswer}
use Rattle.xet_ties.specs.Setup.{ClientGoesOn, RunTold, Setup}
use Rattle.xet_ties.specs.Moves.{QueryStep, heard_first}
use Rattle.xet_ties.specs.PartCalls.{AskedSaid, AskedShort, plan_query}
use Rattle.xet_ties.specs.Ties.{FirstUnfailed, IsLost, IsNextQuery, MayBeAsked, Slack, Ties}
use Rattle.xet_ties.proofs.AskTies.{query_now}
use Rattle.xet_ties.proofs.ClientMoves.{first_unfailed, tie_query}
use Rattle.xet_ties.proofs.Starts.{same_list}

-- ---- any query of the first connection

left_lost : (g : Setup) (b at : RunTold) (es : List Event) (sl : Slack) (c n : ClientTold) (cs : List ClientTold) (qs : List Query) (all : List Said)
    → at.clients ≡ c ∷ cs → sl.lost ≡ [] → QueryStep c n qs all → IsLost g es qs → (calm : ℕ) → FirstUnfailed calm b.clients (n ∷ cs) → Ties g b at es None sl
    → Ties g b (record at { clients = n ∷ cs }) es None (record sl { heard = heard_first qs all sl.heard; lost = qs; calm = calm })
left_lost g b at es sl c n cs qs all is none step may calm unfailed t =
    let lost : sl.lost ++ qs ≡ qs = ap (λ (l : List Query). l ++ qs) none in
    let first : Ties g b (record at { clients = c ∷ cs }) es None sl = subst (λ (l : List ClientTold). Ties g b (record at { clients = l }) es None sl) is t in
    subst (λ (l : List Query). Ties g b (record at { clients = n ∷ cs }) es None (record sl { heard = heard_first qs all sl.heard; lost = l; calm = calm })) lost
    (tie_query g b (record at { clients = c ∷ cs }) es sl (n ∷ cs) qs all (step, refl) (subst (λ (l : List Query). IsLost g es l) (sym lost) may) calm unfailed first)

-- whatever became of it
asked_short : (g : Setup) (b at : RunTold) (es : List Event) (sl : Slack) (c n : ClientTold) (cs : List ClientTold) (q : FileRange)
    → at.clients ≡ c ∷ cs → sl.lost ≡ [] → ClientGoesOn c n → n.served ≡ c.served → AskedAtMostOnce c n (g.file, q) → MayBeAsked g es q → Ties g b at es None sl
    → AskedShort g b at es sl (n ∷ cs)
asked_short g b at es sl c n cs q is none goes served asks may t = ⊎_elim answered (⊎_elim alone not) asks
  where
    go : (qs : List Query) (all : List Said) → QueryStep c n qs all → IsLost g es qs → AskedShort g b at es sl (n ∷ cs)
    go qs all step lost = record { queries = qs; answers = all; ties = left_lost g b at es sl c n cs qs all is none step lost 0 tt t }

    answered : ((a : PlanAnswer) × QueryAnswered c n (g.file, q) a) → AskedShort g b at es sl (n ∷ cs)
    answered a = go ((g.file, q) ∷ []) (said.Plan a.0 ∷ []) (record { goes_on = goes; asked = a.1.asked; said = a.1.said; quiet = refl; late = refl; served = served }) (refl, may)

    alone : Grew c.asked n.asked (g.file, q) × (n.said ≡ c.said) → AskedShort g b at es sl (n ∷ cs)
    alone a = go ((g.file, q) ∷ []) [] (record { goes_on = goes; asked = a.0; said = a.1 ∙ same_list c.said; quiet = refl; late = refl; served = served }) (refl, may)

    not : (n.asked ≡ c.asked) × (n.said ≡ c.said) → AskedShort g b at es sl (n ∷ cs)
    not a = go [] [] (record { goes_on = goes; asked = a.0 ∙ same_list c.asked; said = a.1 ∙ same_list c.said; quiet = refl; late = refl; served = served }) tt

-- where it was answered the answer is its own
answer_now : (f : MerkleHash) (xs : List Exchange) (q : FileRange) (a : PlanAnswer) → InStep xs → IsQueryAnswer f (heard_first ((f, q) ∷ []) (said.Plan a ∷ []) xs) q a
answer_now f [] q a h = absurd h
answer_now f (x ∷ xs) q a h = query_now x.asked x.said (f, q) a h

asked_said : (g : Setup) (b at : RunTold) (es : List Event) (sl : Slack) (c n : ClientTold) (cs : List ClientTold) (q : FileRange) (a : PlanAnswer)
    → at.clients ≡ c ∷ cs → sl.lost ≡ [] → InStep sl.heard → ClientGoesOn c n → n.served ≡ c.served → Grew c.asked n.asked (g.file, q) → Grew c.said n.said (said.Plan a) → n.faults ≡ c.faults → MayBeAsked g es q → Ties g b at es None sl
    → AskedSaid g b at es sl (n ∷ cs) q a
asked_said g b at es sl c n cs q a is none step goes served asked answer same may t = record {
  ties = left_lost g b at es sl c n cs ((g.file, q) ∷ []) (said.Plan a ∷ []) is none (record { goes_on = goes; asked = asked; said = answer; quiet = refl; late = refl; served = served }) (refl, may) sl.calm (first_unfailed sl.calm b.clients c n cs same (subst (λ (l : List ClientTold). FirstUnfailed sl.calm b.clients l) is t.unfailed)) t;
  own = answer_now g.file sl.heard q a step;
}

-- ---- plans and refreshes

-- a plan was asked for, and that failed or isn't recorded
pub ask_short : (g : Setup) (b at : RunTold) (es : List Event) (sl : Slack) (c n : ClientTold) (cs : List ClientTold) (q : FileRange) (id : UniqueId) (answer : Answer)
    → at.clients ≡ c ∷ cs → sl.lost ≡ [] → TermBlockCall c n (plan_query g q id) answer → IsNextQuery g es q → Ties g b at es None sl
    → AskedShort g b at es sl (n ∷ cs)
ask_short g b at es sl c n cs q id answer is none call next t =
    asked_short g b at es sl c n cs q is none (record { store = call.store; link = call.link; faults = call.faults; expiries = call.expiries }) call.served call.asks (inl next) t

pub ask_said : (g : Setup) (b at : RunTold) (es : List Event) (sl : Slack) (c n : ClientTold) (cs : List ClientTold) (q : FileRange) (id : UniqueId) (answer made : Answer)
    → at.clients ≡ c ∷ cs → sl.lost ≡ [] → InStep sl.heard → TermBlockCall c n (plan_query g q id) answer → (from : FromSaid c n (plan_query g q id) made) → IsNextQuery g es q → Ties g b at es None sl
    → AskedSaid g b at es sl (n ∷ cs) q from.plan
ask_said g b at es sl c n cs q id answer made is none step call from next t =
    asked_said g b at es sl c n cs q from.plan is none step (record { store = call.store; link = call.link; faults = call.faults; expiries = call.expiries }) call.served from.asked from.said from.unfailed (inl next) t

-- the URLs of a plan were asked for again, and that failed or isn't recorded
pub refresh_short : (g : Setup) (b at : RunTold) (es : List Event) (sl : Slack) (p : ℕ) (r : Refresh) (c n : ClientTold) (cs : List ClientTold)
    → at.clients ≡ c ∷ cs → sl.lost ≡ [] → MayAsk r c n → range_at es p ≡ r.range ∷ [] → is_stale es p ≡ true → r.file ≡ g.file → Ties g b at es None sl
    → AskedShort g b at es sl (n ∷ cs)
refresh_short g b at es sl p r c n cs is none call at_range stale file t =
    asked_short g b at es sl c n cs r.range is none (record { store = call.store; link = call.link; faults = call.faults; expiries = call.expiries }) call.served
    (subst (λ (x : MerkleHash). AskedAtMostOnce c n (x, r.range)) file call.asks) (inr (p, at_range, stale)) t

pub refresh_said : (g : Setup) (b at : RunTold) (es : List Event) (sl : Slack) (p : ℕ) (r : Refresh) (c n : ClientTold) (cs : List ClientTold) (a : PlanAnswer)
    → at.clients ≡ c ∷ cs → sl.lost ≡ [] → InStep sl.heard → MayAsk r c n → Answered r c n a → range_at es p ≡ r.range ∷ [] → is_stale es p ≡ true → r.file ≡ g.file → Ties g b at es None sl
    → AskedSaid g b at es sl (n ∷ cs) r.range a
refresh_said g b at es sl p r c n cs a is none step call from at_range stale file t =
    asked_said g b at es sl c n cs r.range a is none step (record { store = call.store; link = call.link; faults = call.faults; expiries = call.expiries }) call.served
    (subst (λ (x : MerkleHash). Grew c.asked n.asked (x, r.range)) file from.asked) from.said from.unfailed (inr (p, at_range, stale)) t
