-- A stream after a connection was asked for a block.
use Rattle.std.proofs.Common.{◌≡◌, ℕ, zero, suc, ◌+◌, ◌-◌, List, [], ◌∷◌, ◌++◌, refl, sym, subst, ◌∙◌, ap, ⊎_elim, Option, Some, None, Ok, Err}
use Rattle.std.specs.Prelude.{All, MatchOption, option_and_then, slice_get, slice_set}
use Rattle.std.specs.Option.{is_some}
use Rattle.std.proofs.lemmas.List.Elements.{All-push}
use Rattle.xet_base.specs.declared.cas_types.ChunkRange.{ChunkRange}
use Rattle.xet_base.specs.Store.{IsValid, Store}
use Rattle.xet_outside.specs.Plan.{block_of}
use Rattle.xet_outside.specs.Told.{CacheEntry, CacheTold, ClientTold, Grew, Holds}
use Rattle.xet_outside.specs.declared.block.BlockBytes.{BlockBytes}
use Rattle.xet_offers.specs.declared.reconstruction_terms.xorb_block.XorbBlock.{XorbBlock}
use Rattle.xet_offers.specs.declared.reconstruction_terms.xorb_block.XorbBlockData.{XorbBlockData}
use Rattle.xet_offers.specs.BlockCalls.{failed_check}
use Rattle.xet_offers.specs.BlockChecks.{block_data}
use Rattle.xet_fetch.specs.CachedBlocks.{IsOffered, entry_of}
use Rattle.xet_fetch.proofs.CallerLemmas.{entries_return}
use Rattle.xet_events.specs.declared.event.Event.{Event}
use Rattle.xet_events.specs.declared.event.Event.TheVariants.{Fetched}
use Rattle.xet_events.specs.Allowed.{IsMissing}
use Rattle.xet_parts.specs.Offers.{OfferBlockCall}
use Rattle.xet_ties.specs.declared.lane_step.LaneStep.TheVariants as step
use Rattle.xet_ties.specs.Lanes.{StepDid}
use Rattle.xet_ties.specs.Setup.{AllTell, CacheTells, IsHonestEntry, IsOver, RunTold, Setup}
use Rattle.xet_lane.specs.declared.lane.Fetch.{Fetch}
use Rattle.xet_lane.specs.Fetches.{ask_of}
use Rattle.xet_leader.specs.declared.leader.LedPlan.{LedPlan}
use Rattle.xet_leader.specs.declared.missing_blocks.BlockAt.{BlockAt}
use Rattle.xet_leader.specs.ByNumber.{plan_index}
use Rattle.xet_leader.specs.Fetching.{IsFetch}
use Rattle.xet_leader.specs.Keeping.{kept_one}
use Rattle.xet_leader.specs.KeptBlocks.{kept_in_plan, kept_in_plans, with_data}
use Rattle.xet_leader.specs.Led.{Led, bare, true_data}
use Rattle.xet_leader.specs.Offering.{OfferedBlock}
use Rattle.xet_leader.specs.Plans.{Answer, block_there}
use Rattle.xet_leader.proofs.CallerLemmas.{IsAsked, IsAwaited, asked, awaited, index_set, kept_here, same_found}
use Rattle.xet_stream_rules.specs.Streams.{Carries, nobody}
use Rattle.xet_stream_blocks.specs.steps.Fetching.{Served}
use Rattle.xet_stream_rules.specs.Moments.{Goes, at}
use Rattle.xet_stream_blocks.proofs.Keeps.{carries_fetched}
use Rattle.xet_stream_rules.proofs.CallerLemmas.{lasts_still, set_goes}
use Rattle.xet_stream_rules.proofs.CallerLemmas.{same_rest}

-- ---- what is offered

same_tells : (s : Store) (m n : CacheTold) → n ≡ m → CacheTells s m → CacheTells s n
same_tells s m n e t = subst (CacheTells s) (sym e) t

grew_tells : (s : Store) (o p : Option (List CacheEntry)) (e : CacheEntry) → Grew o p e → IsHonestEntry s e
    → MatchOption o ⊥ (λ es. All (IsHonestEntry s) es) → MatchOption p ⊥ (λ es. All (IsHonestEntry s) es)
grew_tells s None p e g honest t = absurd t
grew_tells s (Some es) p e g honest t =
    subst (λ (o : Option (List CacheEntry)). MatchOption o ⊥ (λ l. All (IsHonestEntry s) l)) (sym g)
    (All-push (IsHonestEntry s) es e t honest)

-- data that is the store's where the store has the block, is an honest entry of its one range
offered_tells : (s : Store) → IsValid s → (x : XorbBlock) (rs : List ChunkRange) (m n : CacheTold) (d : XorbBlockData)
    → IsOffered x rs m n (entry_of d) → (Holds s x.xorb_hash rs → d ≡ block_data rs (block_of s x.xorb_hash rs))
    → CacheTells s m → CacheTells s n
offered_tells s v x [] m n d o made t = same_tells s m n o t
offered_tells s v x (r ∷ q ∷ rs) m n d o made t = same_tells s m n o t
offered_tells s v x (r ∷ []) m n d o made t =
    let honest : IsHonestEntry s (x.xorb_hash, r, entry_of d) =
    λ holds. ap entry_of (made holds) ∙ entries_return s v x.xorb_hash (r ∷ []) holds in
    ⊎_elim
    (λ (e : n.entries ≡ m.entries).
    subst (λ (p : Option (List CacheEntry)). MatchOption p ⊥ (λ l. All (IsHonestEntry s) l)) (sym e) t)
    (λ (g : Grew m.entries n.entries (x.xorb_hash, r, entry_of d)).
    grew_tells s m.entries n.entries (x.xorb_hash, r, entry_of d) g honest t)
    o.0

block_tells : (s : Store) → IsValid s → (x : XorbBlock) (d : XorbBlockData) (m n : CacheTold) (answer : Answer)
    → OfferBlockCall (with_data x d) m n answer
    → (Holds s x.xorb_hash x.chunk_ranges → d ≡ true_data s x) → CacheTells s m → CacheTells s n
block_tells s v x d m n (Ok tt) c made t = offered_tells s v (with_data x d) x.chunk_ranges m n d c.offered made t
block_tells s v x d m n (Err e) c made t = same_tells s m n c.unoffered t

-- ---- lists

pub set_get : {A : Type 0} (xs : List A) (i : ℕ) (x y : A) → slice_get xs i ≡ Some x
    → slice_get (slice_set xs i y) i ≡ Some y
set_get [] i x y h = absurd (cc)
set_get (z ∷ xs) zero x y h = refl
set_get (z ∷ xs) (suc i) x y h = set_get xs i x y h

-- the connection of a number tells what all tell
pub lane_tells : (s : Store) (cs : List ClientTold) (i : ℕ) (c : ClientTold) → slice_get cs i ≡ Some c → AllTell s cs
    → c.store ≡ Some s
lane_tells s [] i c at t = absurd (cc)
lane_tells s (d ∷ cs) zero c at t = let e : d ≡ c = cc in ap (λ (z : ClientTold). z.store) (sym e) ∙ t.0
lane_tells s (d ∷ cs) (suc i) c at t = lane_tells s cs i c at t.1

-- ---- a fetch that is counted

pub recounted : (b : RunTold) (g : Setup) (es : List Event) (l : Led) (n : ℕ) → Carries b g es l
    → Carries b g es (record l { fetches = n })
recounted b g es l n c = same_rest b g es es l (record l { fetches = n }) c.slack c refl refl refl refl refl (record {
  running = c.led.running;
  some = c.led.some;
  tries = c.led.tries;
  stale_are = c.led.stale_are;
  under = c.led.under;
  manager = c.led.manager;
  plans = record {
    each = c.led.plans.each;
    follow = c.led.plans.follow;
    numbered = c.led.plans.numbered;
    last = c.led.plans.last;
    first = c.led.plans.first;
  };
  counted = record {
    planned_are = c.led.counted.planned_are;
    planned_fits = c.led.counted.planned_fits;
    admitted_are = c.led.counted.admitted_are;
    finished_within = c.led.counted.finished_within;
    admitted_within = c.led.counted.admitted_within;
    written_are = c.led.counted.written_are;
  };
})

-- ---- a block that was asked for

module _ (g : Setup) (es : List Event) (l : Led) (c : Carries nobody g es l) (cs : List ClientTold) (a : BlockAt)
    (missing : IsMissing es a.plan a.block) (f : Fetch) (n : ℕ) (is : IsFetch l.plans a n f) (lane : ℕ)
    (before after : ClientTold) (at_lane : slice_get cs lane ≡ Some before) where
  abbrev x : XorbBlock
  x = f.block.now

  abbrev i : ℕ
  i = plan_index l.plans a.plan

  pub own_ask : IsAsked g.tries es a (ask_of f)
  own_ask = asked g nobody es c.slack l a n f c.led missing is

  w : IsAwaited g nobody es c.slack [] l a
  w = awaited g nobody es c.slack [] l c.led a missing

  plan : w.plan ≡ is.plan
  plan = same_found w.plan is.plan l.plans i i w.at is.at refl

  block : w.block ≡ x
  block = same_found w.block x is.plan.block.blocks a.block a.block
      (ap (λ (p : LedPlan). slice_get p.block.blocks a.block) (sym plan) ∙ w.of_plan) is.of_plan refl

  pub number : is.plan.number ≡ a.plan
  number = ap (λ (p : LedPlan). p.number) (sym plan) ∙ w.number

  none : x.kept ≡ None
  none = ap (λ (y : XorbBlock). y.kept) (sym block) ∙ w.none

  bare_is : bare x ≡ x
  bare_is = ap (λ (o : Option XorbBlockData). record x { kept = o }) (sym none)

  -- over what is told the store holds the block
  holds : (b : RunTold) → Carries b g es l → (s : Store) → IsOver s b.clients → Holds s x.xorb_hash x.chunk_ranges
  holds b h s over =
      let v = awaited g b es h.slack [] l h.led a missing in
      let p : v.plan ≡ is.plan = same_found v.plan is.plan l.plans i i v.at is.at refl in
      let y : v.block ≡ x = same_found v.block x is.plan.block.blocks a.block a.block
      (ap (λ (q : LedPlan). slice_get q.block.blocks a.block) (sym p) ∙ v.of_plan) is.of_plan refl in
      subst (λ (z : XorbBlock). Holds s z.xorb_hash z.chunk_ranges) y (v.holds s over)

  -- it was served
  module _ (p k : ℕ) (d : XorbBlockData) (did : StepDid before after (ask_of f) (step.Served p k d)) where
    true_here : (s : Store) → IsOver s cs → Holds s x.xorb_hash x.chunk_ranges → d ≡ true_data s x
    true_here s over has =
        did.is.2.made ∙ ap (λ (b : BlockBytes). block_data x.chunk_ranges b)
        (did.is.2.honest s (lane_tells s cs lane before at_lane over.tell) has)

    carries : (b : RunTold) → ((s : Store) → IsOver s b.clients → IsOver s cs) → (ln : ℕ) → Carries b g es l
        → Carries b g (es ++ Fetched ln a.plan a.block ∷ [])
        (record l { plans = kept_one (a.plan, a.block, d) l.plans })
    carries b over_is ln h =
        let kept = carries_fetched b g es l h i a.block is.plan x d is.at is.of_plan ln did.is.2.given
        (ap (λ (z : XorbBlock). failed_check z did.is.2.given) bare_is ∙ did.is.2.passes) did.is.2.made
        (λ s over. true_here s (over_is s over) (holds b h s over)) in
        let plans : kept_in_plans l.plans i is.plan a.block x d ≡ kept_one (a.plan, a.block, d) l.plans =
        sym (kept_here l.plans is.plan i a.plan a.block x d refl is.at number is.of_plan
        (ap (λ (o : Option XorbBlockData). is_some o) none)) in
        subst (λ (ls : List LedPlan). Carries b g (es ++ Fetched ln a.plan a.block ∷ []) (record l { plans = ls })) plans
        (subst (λ (q : ℕ). Carries b g (es ++ Fetched ln q a.block ∷ [])
        (record l { plans = kept_in_plans l.plans i is.plan a.block x d })) number kept)

    -- and recorded, kept and offered
    module _ (ln next : ℕ) (t u : CacheTold) (fs : List Event) (k2 : Led) (answer : Answer)
        (made : Served ln a d t u es fs (record l { fetches = next }) k2 answer) where
      plans_are : k2.plans ≡ slice_set l.plans i (kept_in_plan is.plan a.block x d)
      plans_are = ap (λ (z : Led). z.plans) made.led
          ∙ kept_here l.plans is.plan i a.plan a.block x d refl is.at number is.of_plan
          (ap (λ (o : Option XorbBlockData). is_some o) none)

      there : block_there k2.plans a.block (plan_index k2.plans a.plan) ≡ Some (with_data x d)
      there =
          ap (λ (ls : List LedPlan). block_there ls a.block (plan_index ls a.plan)) plans_are
          ∙ ap (λ (j : ℕ). block_there (slice_set l.plans i (kept_in_plan is.plan a.block x d)) a.block j)
          (index_set l.plans i is.plan (kept_in_plan is.plan a.block x d) a.plan is.at refl)
          ∙ ap (λ (o : Option LedPlan). option_and_then (λ z. slice_get z.block.blocks a.block) o)
          (set_get l.plans i is.plan (kept_in_plan is.plan a.block x d) is.at)
          ∙ set_get is.plan.block.blocks a.block x (with_data x d) is.of_plan

      pub offered : OfferBlockCall (with_data x d) t u answer
      offered = subst (λ (o : Option XorbBlock). OfferedBlock o t u answer) there made.offered

      pub served_cache : (s : Store) → IsOver s cs → CacheTells s t → CacheTells s u
      served_cache s over tells = block_tells s over.valid x d t u answer offered (true_here s over) tells

      pub served_goes : Goes g (at es l cs t) (at fs k2 (slice_set cs lane after) u)
      served_goes = record {
        lasts = lasts_still g (at es l cs t) (at fs k2 (slice_set cs lane after) u) (Fetched ln a.plan a.block)
            made.events (record { tasks = refl; query = refl; wrote = refl }) (λ s. tt)
            (set_goes cs lane before after at_lane did.goes_on) served_cache;
        carries = λ b told h. subst (λ (e : List Event). Carries b g e k2) (sym made.events)
            (subst (λ (z : Led). Carries b g (es ++ Fetched ln a.plan a.block ∷ []) z) (sym made.led)
            (recounted b g (es ++ Fetched ln a.plan a.block ∷ [])
            (record l { plans = kept_one (a.plan, a.block, d) l.plans }) next (carries b told.clients ln h)));
      }
