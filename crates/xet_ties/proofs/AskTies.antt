-- The ties after a plan was asked for, or its URLs asked for again, and that is recorded.
use Rattle.std.proofs.Common.{true, ◌≡◌, ℕ, ◌+◌, ◌-◌, ◌<◌, ◌≤◌, min, Bool, List, [], ◌∷◌, ◌++◌, length, refl, sym, subst, ◌∙◌, ap, arith, inl, inr, ⊎_elim, Some, None, Option}
use Rattle.std.specs.Prelude.{IsSome, map, Result, Ok}
use Rattle.std.specs.List.{enumerate_from}
use Rattle.xet_base.specs.declared.cas_types.FileRange.{FileRange}
use Rattle.xet_base.specs.declared.merklehash.MerkleHash.{MerkleHash}
use Rattle.xet_base.specs.declared.unique_id.UniqueId.{UniqueId}
use Rattle.xet_base.specs.Lists.{firsts}
use Rattle.xet_base.specs.Store.{Store, bytes_of, file_of}
use Rattle.xet_outside.specs.Answers.{AnswerToQuery, plans_in}
use Rattle.xet_outside.specs.declared.plan.Plan.{Plan}
use Rattle.xet_outside.specs.declared.plan.PlanAnswer.{PlanAnswer}
use Rattle.xet_outside.specs.declared.plan.PlanAnswer.TheVariants.{Found, PastEnd, NoFile}
use Rattle.xet_outside.specs.declared.plan.PlanTerm.{PlanTerm}
use Rattle.xet_outside.specs.declared.said.Said.{Said}
use Rattle.xet_outside.specs.declared.said.Said.TheVariants as said
use Rattle.xet_outside.specs.declared.served.Served.{Served}
use Rattle.xet_outside.specs.Plan.{Shape, plan_of, shape}
use Rattle.xet_outside.specs.Told.{ClientTold, Grew, IsHonest, Query}
use Rattle.xet_outside.proofs.CallerLemmas.{query_after}
use Rattle.xet_error.specs.declared.error.Corruption.{Corruption}
use Rattle.xet_error.specs.declared.error.FileReconstructionError.{FileReconstructionError}
use Rattle.xet_blocks.specs.declared.reconstruction_terms.file_term.TermBlock.{TermBlock}
use Rattle.xet_offers.specs.declared.reconstruction_terms.retrieval_urls.RetrievalUrl.{RetrievalUrl}
use Rattle.xet_offers.specs.declared.reconstruction_terms.xorb_block.XorbBlock.{XorbBlock}
use Rattle.xet_offers.specs.Blocks.{PlanBlock, blocks_of, same_block, term_block}
use Rattle.xet_offers.specs.PlanChecks.{covered, failed_test}
use Rattle.xet_blocks.specs.PlanQuery.{PlanQuery}
use Rattle.xet_blocks.specs.TermBlockCalls.{FromAnswer, FromTerms, FromTested, TermBlockCall}
use Rattle.xet_blocks.specs.TermBlocks.{IsTermBlock, xorb_block}
use Rattle.xet_blocks.specs.Terms.{terms_from, terms_of}
use Rattle.xet_fetch.specs.Refreshes.{IsRefreshed, MayAsk, Refresh, plan_extents, refusal_of}
use Rattle.xet_events.specs.declared.event.Event.{Event}
use Rattle.xet_events.specs.declared.event.Event.TheVariants.{Planned, Refreshed}
use Rattle.xet_events.specs.declared.event.PlannedBlock.{PlannedBlock}
use Rattle.xet_events.specs.declared.event.PlannedTerm.{PlannedTerm}
use Rattle.xet_events.specs.Events.{Task, is_stale, last_of, plan_count, planned, tasks_of}
use Rattle.xet_events.proofs.CallerLemmas.{planned-push}
use Rattle.xet_history.specs.TrueHistory.{IsTrueEvent, planned_block, planned_term, queries}
use Rattle.xet_ties.specs.History.{actual_range, range_at}
use Rattle.xet_ties.specs.InCall.{Exchange, Place}
use Rattle.xet_ties.specs.Saids.{FirstRenewed, InStep, IsCutAnswer, IsMadeOf, IsMadeOfPlan, IsPlanAccepted, planned_of}
use Rattle.xet_ties.specs.Setup.{AllTell, RunTold, Setup}
use Rattle.xet_ties.specs.Moves.{QueryStep, heard_first}
use Rattle.xet_ties.specs.PartCalls.{blocks_of_answer, plan_event, plan_query, plan_refresh, terms_in}
use Rattle.xet_ties.specs.Ties.{CutsRange, EachLane, FirstStarts, HeardAsked, IsLost, Slack, Ties, IsNextQuery}
use Rattle.xet_ties.proofs.ClientMoves.{first_unfailed, tie_planned, tie_query}
use Rattle.xet_ties.proofs.Heard.{FirstEvent, step_query}
use Rattle.xet_ties.proofs.NextPlaces.{asked_own}
use Rattle.xet_ties.proofs.PastEnds.{past_none}
use Rattle.xet_ties.proofs.Pushes.{starts_more}
use Rattle.xet_ties.proofs.Recording.{tie_refreshed}
use Rattle.xet_ties.proofs.Renewed.{renewed_planned, renewed_refreshed}
use Rattle.xet_history.specs.Queries.{CutFrom}

-- ---- the blocks and terms of an answer

planned_listed : (p : Shape) (multi : Bool) (k : ℕ) (bs : List PlanBlock) → map planned_of (map (xorb_block p multi) (enumerate_from k bs)) ≡ map planned_block bs
planned_listed p multi k [] = refl
planned_listed p multi k (b ∷ bs) = ap (λ (l : List PlannedBlock). planned_block b ∷ l) (planned_listed p multi (k + 1) bs)

blocks_are : (p : Plan) (query : PlanQuery) (t : TermBlock) → IsTermBlock p query t → map planned_of t.blocks ≡ map planned_block (blocks_of (shape p) query.multirange)
blocks_are p query t i = ap (λ (l : List XorbBlock). map planned_of l) i.blocks ∙ planned_listed (shape p) query.multirange 0 (blocks_of (shape p) query.multirange)

-- a plan without terms has no blocks
pub none_terms : (p : Shape) (q : FileRange) (multi : Bool) → p.terms ≡ [] → terms_of p q multi ≡ []
none_terms p q multi e = ap (λ (l : List PlanTerm). terms_from p q multi q.start p.offset l) e

none_blocks : (p : Shape) (multi : Bool) → p.terms ≡ [] → blocks_of p multi ≡ []
none_blocks p multi e = ap (λ (l : List PlanTerm). firsts same_block (map (term_block p multi) l)) e

-- what an answer makes, by the plan's tests
made_tested : (g : Setup) (p : Plan) (q : FileRange) (id : UniqueId) (o : Option Corruption) (t : Option TermBlock) → failed_test (shape p) q g.multirange ≡ o → 0 < length p.terms → FromTested p (plan_query g q id) o (Ok t) → IsMadeOf g q (terms_in t) (blocks_of_answer t) (Found p)
made_tested g p q id (Some k) t e some from = absurd (cc)
made_tested g p q id None None e some from = let same = from.1 in absurd (cc)
made_tested g p q id None (Some x) e some from =
    let same : ◌≡◌ {A = Result (Option TermBlock) FileReconstructionError} (Ok (Some x)) (Ok (Some from.0)) = from.1 in
    let is : x ≡ from.0 = cc in
    inr (record {
      some = some;
      passes = e;
      terms = ap (λ (y : TermBlock). map planned_term y.terms) is ∙ ap (λ l. map planned_term l) from.2.terms;
      blocks = ap (λ (y : TermBlock). map planned_of y.blocks) is ∙ blocks_are p (plan_query g q id) from.0 from.2;
    })

made_terms : (g : Setup) (p : Plan) (q : FileRange) (id : UniqueId) (ts : List PlanTerm) (t : Option TermBlock) → p.terms ≡ ts → FromTerms p (plan_query g q id) ts (Ok t) → IsMadeOf g q (terms_in t) (blocks_of_answer t) (Found p)
made_terms g p q id [] None e from = inl (e, refl, refl)
made_terms g p q id [] (Some x) e from = absurd (cc)
made_terms g p q id (z ∷ ts) t e from =
    let n = ap (λ (l : List PlanTerm). length l) e in
    made_tested g p q id (failed_test (shape p) q g.multirange) t refl (omega (arith, n)) from

pub answer_makes : (g : Setup) (q : FileRange) (id : UniqueId) (a : PlanAnswer) (t : Option TermBlock) → FromAnswer (plan_query g q id) a (Ok t) → IsMadeOf g q (terms_in t) (blocks_of_answer t) a
answer_makes g q id NoFile t from = absurd (cc)
answer_makes g q id PastEnd None from = (refl, refl)
answer_makes g q id PastEnd (Some x) from = absurd (cc)
answer_makes g q id (Found p) t from = made_terms g p q id p.terms t refl from

-- over a store it is the store's, where past the file's end a plan has no terms
pub made_true : (s : Store) (g : Setup) (q : FileRange) (n : ℕ) (ts : List PlannedTerm) (bs : List PlannedBlock) (a : PlanAnswer) → (length (bytes_of s g.file) ≤ q.start → (plan_of s g.file q).terms ≡ []) → IsHonest s g.file q a → IsMadeOf g q ts bs a
    → IsTrueEvent s g.file g.multirange (Planned n q ts bs)
made_true s g q n ts bs NoFile past h m = absurd m
made_true s g q n ts bs PastEnd past h m =
    let none = past h.1 in
    (m.0 ∙ sym (ap (λ l. map planned_term l) (none_terms (plan_of s g.file q) q g.multirange none)), m.1 ∙ sym (ap (λ l. map planned_block l) (none_blocks (plan_of s g.file q) g.multirange none)))
made_true s g q n ts bs (Found p) past h m = ⊎_elim empty full m
  where
    empty : (p.terms ≡ []) × (ts ≡ []) × (bs ≡ []) → IsTrueEvent s g.file g.multirange (Planned n q ts bs)
    empty e =
        let none : (plan_of s g.file q).terms ≡ [] = sym (ap (λ (z : Shape). z.terms) h.2) ∙ e.0 in
        (e.1 ∙ sym (ap (λ l. map planned_term l) (none_terms (plan_of s g.file q) q g.multirange none)), e.2 ∙ sym (ap (λ l. map planned_block l) (none_blocks (plan_of s g.file q) g.multirange none)))

    full : IsMadeOfPlan g q ts bs p → IsTrueEvent s g.file g.multirange (Planned n q ts bs)
    full e = (e.terms ∙ ap (λ (z : Shape). map planned_term (terms_of z q g.multirange)) h.2, e.blocks ∙ ap (λ (z : Shape). map planned_block (blocks_of z g.multirange)) h.2)

pub made_stored : (s : Store) (g : Setup) (q : FileRange) (ts : List PlannedTerm) (bs : List PlannedBlock) (a : PlanAnswer) → IsHonest s g.file q a → IsMadeOf g q ts bs a → IsSome (file_of s g.file)
made_stored s g q ts bs NoFile h m = absurd m
made_stored s g q ts bs PastEnd h m = h.0
made_stored s g q ts bs (Found p) h m = h.0

-- ---- a plan's terms end within its query

ends_within : (p : Shape) (q : FileRange) (multi : Bool) (place offset low : ℕ) (ts : List PlanTerm) → low ≤ q.end → last_of low (map (λ t. t.byte_range.end) (map planned_term (terms_from p q multi place offset ts))) ≤ q.end
ends_within p q multi place offset low [] h = h
ends_within p q multi place offset low (t ∷ ts) h = ends_within p q multi (place + (t.unpacked_length - offset)) 0 (min (place + (t.unpacked_length - offset)) q.end) ts (omega arith)

pub made_within : (g : Setup) (q : FileRange) (ts : List PlannedTerm) (bs : List PlannedBlock) (a : PlanAnswer) → q.start ≤ q.end → IsMadeOf g q ts bs a → (actual_range q ts).end ≤ q.end
made_within g q ts bs NoFile h m = absurd m
made_within g q ts bs PastEnd h m = subst (λ (l : List PlannedTerm). last_of q.start (map (λ t. t.byte_range.end) l) ≤ q.end) (sym m.0) h
made_within g q ts bs (Found p) h m =
    ⊎_elim
    (λ (e : (p.terms ≡ []) × (ts ≡ []) × (bs ≡ [])). subst (λ (l : List PlannedTerm). last_of q.start (map (λ t. t.byte_range.end) l) ≤ q.end) (sym e.1) h)
    (λ (e : IsMadeOfPlan g q ts bs p). subst (λ (l : List PlannedTerm). last_of q.start (map (λ t. t.byte_range.end) l) ≤ q.end) (sym e.terms) (ends_within (shape p) q g.multirange q.start (shape p).offset q.start (shape p).terms h))
    m

-- ---- the first planned term starts where the range does

from_first : (p : Shape) (q : FileRange) (multi : Bool) (place offset n : ℕ) (bs : List PlannedBlock) (ts : List PlanTerm) → FirstStarts place (tasks_of n (map planned_term (terms_from p q multi place offset ts)) bs)
from_first p q multi place offset n bs [] = tt
from_first p q multi place offset n bs (t ∷ ts) = refl

made_first : (g : Setup) (q : FileRange) (n : ℕ) (ts : List PlannedTerm) (bs : List PlannedBlock) (a : PlanAnswer) → IsMadeOf g q ts bs a → FirstStarts q.start (tasks_of n ts bs)
made_first g q n ts bs NoFile m = absurd m
made_first g q n ts bs PastEnd m = subst (λ (l : List PlannedTerm). FirstStarts q.start (tasks_of n l bs)) (sym m.0) tt
made_first g q n ts bs (Found p) m =
    ⊎_elim
    (λ (e : (p.terms ≡ []) × (ts ≡ []) × (bs ≡ [])). subst (λ (l : List PlannedTerm). FirstStarts q.start (tasks_of n l bs)) (sym e.1) tt)
    (λ (e : IsMadeOfPlan g q ts bs p). subst (λ (l : List PlannedTerm). FirstStarts q.start (tasks_of n l bs)) (sym e.terms) (from_first (shape p) q g.multirange q.start (shape p).offset n bs (shape p).terms))
    m

made_starts : (g : Setup) (es : List Event) (q : FileRange) (n : ℕ) (ts : List PlannedTerm) (bs : List PlannedBlock) (a : PlanAnswer) → (planned es ≡ [] → q.start ≡ g.range.start) → FirstStarts g.range.start (planned es) → IsMadeOf g q ts bs a
    → FirstStarts g.range.start (planned (es ++ Planned n q ts bs ∷ []))
made_starts g es q n ts bs a first_is starts m =
    subst (λ (l : List Task). FirstStarts g.range.start l) (sym (planned-push es (Planned n q ts bs)))
    (starts_more g.range.start (planned es) (tasks_of n ts bs) starts (λ e. subst (λ (i : ℕ). FirstStarts i (tasks_of n ts bs)) (first_is e) (made_first g q n ts bs a m)))

-- ---- the first connection

-- it tells the store that it told at the start
first_store : (es : List Event) (b : ClientTold) (bs : List ClientTold) (m : ClientTold) (ms : List ClientTold) (hs : List (List Served)) (ks : List (List Place)) → EachLane es 0 (b ∷ bs) (m ∷ ms) hs ks → m.store ≡ b.store
first_store es b bs m ms [] ks t = absurd t
first_store es b bs m ms (h ∷ hs) [] t = absurd t
first_store es b bs m ms (h ∷ hs) (k ∷ ks) t = t.0.goes_on.store

pub first_tells : (s : Store) (es : List Event) (bs : List ClientTold) (m : ClientTold) (ms : List ClientTold) (hs : List (List Served)) (ks : List (List Place)) → EachLane es 0 bs (m ∷ ms) hs ks → AllTell s bs → m.store ≡ Some s
first_tells s es [] m ms hs ks t a = absurd t
first_tells s es (b ∷ bs) m ms hs ks t a = first_store es b bs m ms hs ks t ∙ a.0

-- the answer to one more query is that query's own
pub query_now : (asked : List Query) (all : List Said) (q : Query) (a : PlanAnswer) → length asked ≡ length (plans_in all) → AnswerToQuery (asked ++ q ∷ []) (all ++ said.Plan a ∷ []) q a
query_now asked all q a same = query_after asked (q ∷ []) all (said.Plan a ∷ []) q a same (record { place = 0; query = refl; answer = refl })

-- so the plan that is recorded was said in answer to its own query
first_event : (g : Setup) (xs : List Exchange) (q : FileRange) (a : PlanAnswer) (n : ℕ) (ts : List PlannedTerm) (bs : List PlannedBlock) → IsCutAnswer g.file xs n q a → IsMadeOf g q ts bs a → FirstEvent g xs (Planned n q ts bs)
first_event g [] q a n ts bs h m = absurd h
first_event g (x ∷ xs) q a n ts bs h m = record { answer = a; said = h; made = m }

cut_order : (g : Setup) (qs : List FileRange) (q : FileRange) → CutsRange g (qs ++ q ∷ []) → q.start ≤ q.end
cut_order g qs q c = go qs g.range.start c.from
  where
    go : (l : List FileRange) (place : ℕ) → CutFrom place g.range.end (g.greatest + g.least) (l ++ q ∷ []) → q.start ≤ q.end
    go [] place h = let s = h.1 in omega (arith, s)
    go (x ∷ l) place h = go l x.end h.4

-- ---- asking

-- after a plan was asked for and recorded
pub ask_ties : (g : Setup) (b at : RunTold) (es fs : List Event) (sl : Slack) (spare : ℕ) (c n : ClientTold) (cs : List ClientTold) (q : FileRange) (id : UniqueId) (o : Option TermBlock)
    → at.clients ≡ c ∷ cs → (call : TermBlockCall c n (plan_query g q id) (Ok o)) → fs ≡ es ++ plan_event es q o ∷ [] → sl.lost ≡ [] → sl.spare ≡ spare + 1 → InStep sl.heard → IsNextQuery g es q → (planned es ≡ [] → q.start ≡ g.range.start)
    → Ties g b at es None sl
    → (let heard = heard_first ((g.file, q) ∷ []) (said.Plan call.made.plan ∷ []) sl.heard in Ties g b (record at { clients = n ∷ cs }) fs None (record sl { heard = heard; lost = []; spare = spare }) × InStep heard)
ask_ties g b at es fs sl spare c n cs q id o is call recorded none polls step next first_is t =
    let from = call.made in
    let a = from.plan in
    let qs : List Query = (g.file, q) ∷ [] in
    let all : List Said = said.Plan a ∷ [] in
    let heard = heard_first qs all sl.heard in
    let made = answer_makes g q id a o from.from in
    let asked : QueryStep c n qs all = record { goes_on = record { store = call.store; link = call.link; faults = call.faults; expiries = call.expiries }; asked = from.asked; said = from.said; quiet = refl; late = refl; served = call.served } in
    let tells : (s : Store) → AllTell s b.clients → c.store ≡ Some s = (λ s h. first_tells s es b.clients c cs sl.hidden sl.late (subst (λ (l : List ClientTold). EachLane es 0 b.clients l sl.hidden sl.late) is t.served.lanes) h) in
    let first : Ties g b (record at { clients = c ∷ cs }) es None sl = subst (λ (l : List ClientTold). Ties g b (record at { clients = l }) es None sl) is t in
    let lost : sl.lost ++ qs ≡ qs = ap (λ (l : List Query). l ++ qs) none in
    let told = tie_query g b (record at { clients = c ∷ cs }) es sl (n ∷ cs) qs all (asked, refl) (subst (λ (l : List Query). IsLost g es l) (sym lost) (refl, inl next)) sl.calm (first_unfailed sl.calm b.clients c n cs from.unfailed first.unfailed) first in (
      subst (λ (l : List Event). Ties g b (record at { clients = n ∷ cs }) l None (record sl { heard = heard; lost = []; spare = spare })) (sym recorded)
          (tie_planned g b (record at { clients = n ∷ cs }) es (record sl { heard = heard; lost = sl.lost ++ qs }) spare (plan_count es + 1) q (terms_in o) (blocks_of_answer o) lost polls next
          (made_within g q (terms_in o) (blocks_of_answer o) a (cut_order g (queries es) q next.cuts) made)
          (made_starts g es q (plan_count es + 1) (terms_in o) (blocks_of_answer o) a first_is t.starts made)
          refl
          (first_event g heard q a (plan_count es + 1) (terms_in o) (blocks_of_answer o) (asked_own g b at es None sl q a t none step next) made)
          (λ s over. made_true s g q (plan_count es + 1) (terms_in o) (blocks_of_answer o) a (past_none s over.valid g.file q) (from.honest s (tells s over.tell)) made)
          (λ s h. made_stored s g q (terms_in o) (blocks_of_answer o) a (from.honest s (tells s h)) made)
          (λ r. renewed_planned g es q a sl.heard t.within t.cuts next.cuts (subst (λ (l : List Query). HeardAsked g.file es l sl.heard) none t.heard_asked) (subst (λ (l : List Query). FirstRenewed g l heard) lost r))
          told),
      step_query qs all sl.heard refl step,
    )

-- after the URLs of a plan were asked for again, and that was recorded
pub refresh_ties : (g : Setup) (b at : RunTold) (es fs : List Event) (sl : Slack) (p : ℕ) (r : Refresh) (us : List RetrievalUrl) (c n : ClientTold) (cs : List ClientTold)
    → at.clients ≡ c ∷ cs → MayAsk r c n → (new : IsRefreshed r c n us) → fs ≡ es ++ Refreshed p ∷ [] → sl.lost ≡ [] → InStep sl.heard → range_at es p ≡ r.range ∷ [] → is_stale es p ≡ true → r.file ≡ g.file → (pl : Plan) (q : FileRange) → IsPlanAccepted g sl.heard pl q → r ≡ plan_refresh g pl q
    → Ties g b at es None sl
    → (let heard = heard_first ((g.file, r.range) ∷ []) (said.Plan (Found new.plan) ∷ []) sl.heard in Ties g b (record at { clients = n ∷ cs }) fs None (record sl { heard = heard; lost = [] }) × InStep heard)
refresh_ties g b at es fs sl p r us c n cs is may new recorded none step at_range stale file pl q accepted own t =
    let qs : List Query = (g.file, r.range) ∷ [] in
    let all : List Said = said.Plan (Found new.plan) ∷ [] in
    let heard = heard_first qs all sl.heard in
    let grew : Grew c.asked n.asked (g.file, r.range) = subst (λ (x : MerkleHash). Grew c.asked n.asked (x, r.range)) file new.answered.asked in
    let asked : QueryStep c n qs all = record { goes_on = record { store = may.store; link = may.link; faults = may.faults; expiries = may.expiries }; asked = grew; said = new.answered.said; quiet = refl; late = refl; served = may.served } in
    let first : Ties g b (record at { clients = c ∷ cs }) es None sl = subst (λ (v : List ClientTold). Ties g b (record at { clients = v }) es None sl) is t in
    let lost : sl.lost ++ qs ≡ qs = ap (λ (l : List Query). l ++ qs) none in
    let range : r.range ≡ covered (shape pl) q = ap (λ (v : Refresh). v.range) own in
    let passes : refusal_of (covered (shape pl) q) g.multirange (plan_extents (shape pl) g.multirange) (Found new.plan) ≡ None = subst (λ (v : Refresh). refusal_of v.range v.multirange v.blocks (Found new.plan) ≡ None) own new.passes in
    let renews : FirstRenewed g qs heard → FirstRenewed g [] heard =
    subst (λ (v : FileRange). FirstRenewed g ((g.file, v) ∷ []) (heard_first ((g.file, v) ∷ []) all sl.heard) → FirstRenewed g [] (heard_first ((g.file, v) ∷ []) all sl.heard)) (sym range)
    (renewed_refreshed g pl q (Found new.plan) sl.heard accepted step passes) in
    let told = tie_query g b (record at { clients = c ∷ cs }) es sl (n ∷ cs) qs all (asked, refl) (subst (λ (l : List Query). IsLost g es l) (sym lost) (refl, inr (p, at_range, stale))) sl.calm (first_unfailed sl.calm b.clients c n cs new.answered.unfailed first.unfailed) first in (
      subst (λ (v : List Event). Ties g b (record at { clients = n ∷ cs }) v None (record sl { heard = heard; lost = [] })) (sym recorded)
          (tie_refreshed g b (record at { clients = n ∷ cs }) es (record sl { heard = heard; lost = sl.lost ++ qs }) p r.range at_range lost (λ w. renews (subst (λ (l : List Query). FirstRenewed g l heard) lost w)) told),
      step_query qs all sl.heard refl step,
    )
