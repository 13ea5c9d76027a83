-- A run after the blocks that lanes served were offered to the cache.
use Rattle.std.proofs.Common.{◌≡◌, ℕ, ◌+◌, ◌<◌, true, cond, List, [], ◌∷◌, ◌++◌, take, drop, zero, suc, Option, None, Some, Ok, Err, refl, sym, subst, ◌∙◌, ap, arith}
use Rattle.std.specs.Prelude.{count_by, IfSome, map, option_and_then, option_map, option_to_list, slice_get}
use Rattle.std.specs.Option.{is_some}
use Rattle.std.specs.List.{flat_map}
use Rattle.std.proofs.lemmas.List.{append-nil, take-append-drop}
use Rattle.std.proofs.lemmas.Option.{IfSome_then, slice_get-map}
use Rattle.xet_base.specs.Lists.{first_some}
use Rattle.xet_base.specs.Store.{Store}
use Rattle.xet_outside.specs.Plan.{shape}
use Rattle.xet_outside.specs.Told.{CacheTold}
use Rattle.xet_outside.proofs.CallerLemmas.{count_by-cons}
use Rattle.xet_error.specs.declared.error.FileReconstructionError.{FileReconstructionError}
use Rattle.xet_error.specs.declared.error.FileReconstructionError.TheVariants as error
use Rattle.xet_offers.specs.declared.reconstruction_terms.xorb_block.XorbBlock.{XorbBlock}
use Rattle.xet_offers.specs.declared.reconstruction_terms.xorb_block.XorbBlockData.{XorbBlockData}
use Rattle.xet_blocks.specs.TermBlocks.{xorb_blocks}
use Rattle.xet_events.specs.declared.event.Event.{Event}
use Rattle.xet_events.specs.declared.event.PlannedBlock.{PlannedBlock}
use Rattle.xet_ties.specs.Causes.{Cause}
use Rattle.xet_ties.specs.Gains.{MayOffer}
use Rattle.xet_ties.specs.History.{block_at, blocks_in, fetches}
use Rattle.xet_ties.specs.Saids.{planned_of}
use Rattle.xet_ties.specs.Setup.{CacheTells, IsOver, RunTold, Setup}
use Rattle.xet_ties.specs.PartCalls.{offers_in, offers_of}
use Rattle.xet_ties.specs.Rounds.{blocks_at}
use Rattle.xet_ties.specs.Ties.{MayLeave, Slack, Ties, has_one}
use Rattle.xet_ties.proofs.CallerLemmas.{grew_none, short_leaves}
use Rattle.xet_parts.specs.Offers.{OfferBlockCall}
use Rattle.xet_parts.proofs.CallerLemmas.{offer_block_ties, offer_tells}
use Rattle.xet_leader.specs.declared.leader.LedPlan.{LedPlan}
use Rattle.xet_leader.specs.declared.missing_blocks.BlockAt.{BlockAt}
use Rattle.xet_leader.specs.Led.{EachLedBlock, IsAnswerData, IsLed, IsLedPlan, Led, bare, true_data}
use Rattle.xet_leader.specs.Offering.{AreServed, IsServed, OfferCalls, OfferFails, OfferLeads, OfferedBlock, OfferedEach, OfferedOne, due_of}
use Rattle.xet_leader.specs.Plans.{Answer, block_in, block_there, find_plan}
use Rattle.xet_leader.specs.Steady.{IsFailing, IsGoing, LeadPart, Loose, Moment}
use Rattle.xet_leader.proofs.Leading.{lead_more}
use Rattle.xet_leader.proofs.MoreTold.{led_more, tells_more_heard}
use Rattle.xet_leader.proofs.PlanPlaces.{place_number}
use Rattle.xet_leader.proofs.RefreshedEvents.{at_place}
use Rattle.xet_leader.proofs.WriterFaults.{any_unfailed}
use Rattle.xet_leader.proofs.Halts.{memory_halted, memory_spent}

-- the moment after an offer
abbrev cached_at : Moment → CacheTold → Moment
cached_at m d = record { told = record m.told { cache = d }; events = m.events }

abbrev with_due : Loose → ℕ → Loose
with_due o n = record o { due = n }

-- ---- the block at a place

-- what the block is in the history, and what it keeps: where it was fetched that may be offered
record Found (g : Setup) (b : RunTold) (es : List Event) (sl : Slack) (p k : ℕ) (x : XorbBlock) : Type 0 where
  pub at : block_at es p k ≡ planned_of x ∷ []
  pub may : 0 < count_by (fetches p k) es → MayOffer g sl.heard x
  pub honest : (s : Store) → IsOver s b.clients → CacheTells s b.cache → IfSome x.kept (λ d. d ≡ true_data s x)

each_honest : (b : RunTold) (es : List Event) (sl : Slack) (p n k : ℕ) (ts : List ℕ) (xs : List XorbBlock)
    (x : XorbBlock) → EachLedBlock b es sl p n ts xs → slice_get xs k ≡ Some x
    → (s : Store) → IsOver s b.clients → CacheTells s b.cache → IfSome x.kept (λ d. d ≡ true_data s x)
each_honest b es sl p n k [] [] x a e s o t = absurd (cc)
each_honest b es sl p n k [] (y ∷ xs) x a e s o t = absurd a
each_honest b es sl p n k (u ∷ ts) [] x a e s o t = absurd a
each_honest b es sl p n zero (u ∷ ts) (y ∷ xs) x a e s o t =
    let is : y ≡ x = cc in
    subst (λ (z : XorbBlock). IfSome z.kept (λ d. d ≡ true_data s z)) is (a.0.data_is.honest s o t)
each_honest b es sl p n (suc k) (u ∷ ts) (y ∷ xs) x a e s o t = each_honest b es sl p (n + 1) k ts xs x a.1 e s o t

-- where the block of this number was fetched it keeps an answer's data
abbrev IsAnswered : List Event → Slack → ℕ → XorbBlock → ℕ → Type 0
IsAnswered es sl p x k = 0 < count_by (fetches p k) es → IfSome x.kept (IsAnswerData sl p k (bare x))

each_answered : (b : RunTold) (es : List Event) (sl : Slack) (p n k : ℕ) (ts : List ℕ) (xs : List XorbBlock)
    (x : XorbBlock) → EachLedBlock b es sl p n ts xs → slice_get xs k ≡ Some x → IsAnswered es sl p x (n + k)
each_answered b es sl p n k [] [] x a e = absurd (cc)
each_answered b es sl p n k [] (y ∷ xs) x a e = absurd a
each_answered b es sl p n k (u ∷ ts) [] x a e = absurd a
each_answered b es sl p n zero (u ∷ ts) (y ∷ xs) x a e =
    let is : y ≡ x = cc in
    let m : n ≡ n + 0 = omega arith in
    subst (IsAnswered es sl p x) m (subst (λ (z : XorbBlock). IsAnswered es sl p z n) is a.0.fetched)
each_answered b es sl p n (suc k) (u ∷ ts) (y ∷ xs) x a e =
    let m : n + 1 + k ≡ n + suc k = omega arith in
    subst (IsAnswered es sl p x) m (each_answered b es sl p (n + 1) k ts xs x a.1 e)

-- such data of a block of a plan that was said may be offered
may_offer : (g : Setup) (b : RunTold) (es : List Event) (sl : Slack) (stale : List ℕ) (y : LedPlan) (k : ℕ)
    (x : XorbBlock) → IsLedPlan g b es sl stale y → slice_get y.block.blocks k ≡ Some x
    → IfSome x.kept (IsAnswerData sl y.number k (bare x)) → MayOffer g sl.heard x
may_offer g b es sl stale y k x own e h =
    let there : slice_get (xorb_blocks (shape own.plan) g.multirange) k ≡ Some (bare x) =
    ap (λ (l : List XorbBlock). slice_get l k) (sym own.blocks) ∙ slice_get-map bare y.block.blocks k
    ∙ ap (λ (o : Option XorbBlock). option_map bare o) e in
    IfSome_then x.kept h (λ d s r one. record {
      place = record {
        plan = own.plan;
        query = own.query;
        accepted = own.accepted;
        number = k;
        block = bare x;
        numbered = there;
      };
      range = r;
      one = one;
      data_of = d;
      served = subst (λ (n : ℕ). IsAnswerData sl n k (bare x) d) own.said_as s;
      is = refl;
    })

planned_at : (es : List Event) (p k : ℕ) (xs : List XorbBlock) (x : XorbBlock)
    → first_some (map (blocks_in p) es) ≡ Some (map planned_of xs) → slice_get xs k ≡ Some x
    → block_at es p k ≡ planned_of x ∷ []
planned_at es p k xs x h e =
    ap (λ (o : Option (List PlannedBlock)). flat_map (λ bs. option_to_list (slice_get bs k)) (option_to_list o)) h
    ∙ append-nil (option_to_list (slice_get (map planned_of xs) k))
    ∙ ap (λ (o : Option PlannedBlock). option_to_list o)
    (slice_get-map planned_of xs k ∙ ap (λ (o : Option XorbBlock). option_map planned_of o) e)

found_in : (g : Setup) (b : RunTold) (es : List Event) (sl : Slack) (stale : List ℕ) (l : Led) (p k place : ℕ)
    (y : LedPlan) (x : XorbBlock) → IsLed g b es sl stale l → find_plan l.plans p ≡ Some place
    → slice_get l.plans place ≡ Some y
    → slice_get y.block.blocks k ≡ Some x → Found g b es sl p k x
found_in g b es sl stale l p k place y x a found at e =
    let own = at_place (IsLedPlan g b es sl stale) l.plans place y at a.plans.each in
    let number = place_number l.plans p place y a.plans.follow found at in
    let here : 0 + k ≡ k = omega arith in
    record {
      at = subst (λ (n : ℕ). block_at es n k ≡ planned_of x ∷ []) number
          (planned_at es y.number k y.block.blocks x own.recorded.blocks e);
      may = λ h. may_offer g b es sl stale y k x own e
          (subst (IsAnswered es sl y.number x) here
          (each_answered b es sl y.number 0 k y.tries.items y.block.blocks x own.each e)
          (subst (λ (n : ℕ). 0 < count_by (fetches n k) es) (sym number) h));
      honest = each_honest b es sl y.number 0 k y.tries.items y.block.blocks x own.each e;
    }

found_block : (g : Setup) (b : RunTold) (es : List Event) (sl : Slack) (stale : List ℕ) (l : Led) (p k : ℕ)
    (x : XorbBlock) → IsLed g b es sl stale l → block_in l.plans p k ≡ Some x → Found g b es sl p k x
found_block g b es sl stale l p k x a e = by (find_plan l.plans p) refl e
  where
    there : (place : ℕ) → find_plan l.plans p ≡ Some place → (o : Option LedPlan) → slice_get l.plans place ≡ o
        → option_and_then (λ (y : LedPlan). slice_get y.block.blocks k) o ≡ Some x → Found g b es sl p k x
    there place found None at h = absurd (cc)
    there place found (Some y) at h = found_in g b es sl stale l p k place y x a found at h

    by : (o : Option ℕ) → find_plan l.plans p ≡ o → option_and_then (block_there l.plans k) o ≡ Some x
        → Found g b es sl p k x
    by None found h = absurd (cc)
    by (Some place) found h = there place found (slice_get l.plans place) refl h

-- ---- one block

offers_kept : (x : XorbBlock) (o : Option XorbBlockData) → is_some o ≡ true
    → offers_in x o ≡ cond (has_one (planned_of x)) 1 0
offers_kept x None h = absurd (cc)
offers_kept x (Some d) h = refl

-- how many are due before and after it
due_step : (es : List Event) (a : BlockAt) (ps : List BlockAt) (x : XorbBlock)
    → block_at es a.plan a.block ≡ planned_of x ∷ [] → is_some x.kept ≡ true
    → due_of es (a ∷ ps) ≡ due_of es ps + offers_of x
due_step es a ps x at kept =
    let rest : List PlannedBlock = blocks_at es (map (λ (p : BlockAt). (p.plan, p.block)) ps) in
    let e : count_by has_one (block_at es a.plan a.block ++ rest) ≡ count_by has_one (planned_of x ∷ rest) =
    ap (λ (l : List PlannedBlock). count_by has_one (l ++ rest)) at in
    let c : count_by has_one (planned_of x ∷ rest) ≡ cond (has_one (planned_of x)) 1 0 + count_by has_one rest =
    count_by-cons has_one (planned_of x) rest in
    let k : offers_of x ≡ cond (has_one (planned_of x)) 1 0 = offers_kept x x.kept kept in
    omega (arith, e, c, k)

offered_going : (g : Setup) (b : RunTold) (m : Moment) (o : Loose) (a : BlockAt) (ps : List BlockAt) (l : Led)
    (x : XorbBlock) (d : CacheTold) → block_in l.plans a.plan a.block ≡ Some x → is_some x.kept ≡ true
    → 0 < count_by (fetches a.plan a.block) m.events → OfferBlockCall x m.told.cache d (Ok tt)
    → IsGoing g b m (with_due o (due_of m.events (a ∷ ps))) l
    → IsGoing g b (cached_at m d) (with_due o (due_of m.events ps)) l
offered_going g b m o a ps l x d at kept fetched call s =
    let found = found_block g b m.events s.slack o.stale l a.plan a.block x s.led at in
    let step = due_step m.events a ps x found.at kept in
    let due = s.settled.due in
    let n = due_of m.events ps in
    record {
      slack = record s.slack { due = n };
      ties = (offer_block_ties x m.told.cache d (Ok tt) call).done g b m.told m.events s.slack n refl
          (omega (arith, step, due)) (found.may fetched) s.ties;
      settled = record {
        hidden = s.settled.hidden;
        late = s.settled.late;
        lost = s.settled.lost;
        ahead = s.settled.ahead;
        spare = s.settled.spare;
        pending = s.settled.pending;
        due = refl;
        step = s.settled.step;
        calm = s.settled.calm;
      };
      led = led_more g b m.events s.slack (record s.slack { due = n }) o.stale l
          (tells_more_heard s.slack (record s.slack { due = n }) (grew_none s.slack.heard) refl) s.led;
      calm = s.calm;
      unfailed = s.unfailed;
      cache_tells = λ z over tells. offer_tells z over.valid x m.told.cache d (Ok tt) call (found.honest z over tells)
          (s.cache_tells z over tells);
    }

one_offered : (g : Setup) (m : Moment) (o : Loose) (a : BlockAt) (ps : List BlockAt) (l : Led) (d : CacheTold)
    → IsServed (block_in l.plans a.plan a.block) → 0 < count_by (fetches a.plan a.block) m.events
    → OfferedOne l.plans a m.told.cache d (Ok tt)
    → LeadPart {A = Unit {0}} g m (cached_at m d) (with_due o (due_of m.events (a ∷ ps)))
    (with_due o (due_of m.events ps)) l l (Ok tt)
one_offered g m o a ps l d served fetched r = by (block_in l.plans a.plan a.block) refl served r
  where
    by : (x : Option XorbBlock) → block_in l.plans a.plan a.block ≡ x → IsServed x
        → OfferedBlock x m.told.cache d (Ok tt) → LeadPart {A = Unit {0}} g m (cached_at m d)
        (with_due o (due_of m.events (a ∷ ps))) (with_due o (due_of m.events ps)) l l (Ok tt)
    by None e h t = absurd h
    by (Some x) e h t = record { ok = λ b s. offered_going g b m o a ps l x d e h fetched t s; err = λ b s. tt }

-- ---- all of them

same_cache : (g : Setup) (m : Moment) (o : Loose) (l : Led) (d : CacheTold) → d ≡ m.told.cache
    → LeadPart {A = Unit {0}} g m (cached_at m d) o o l l (Ok tt)
same_cache g m o l d e = record {
  ok = λ b s. subst (λ (x : CacheTold). IsGoing g b (cached_at m x) o l) (sym e) s;
  err = λ b s. tt;
}

each_offered : (g : Setup) (m : Moment) (o : Loose) (ps rest : List BlockAt) (l : Led) (d : CacheTold)
    → AreServed m.events l.plans ps → OfferedEach l.plans ps m.told.cache d
    → LeadPart {A = Unit {0}} g m (cached_at m d) (with_due o (due_of m.events (ps ++ rest)))
    (with_due o (due_of m.events rest)) l l (Ok tt)
each_offered g m o [] rest l d served r = same_cache g m (with_due o (due_of m.events rest)) l d r
each_offered g m o (p ∷ ps) rest l d served r =
    let x = r.0 in
    lead_more g m (cached_at m x) (cached_at m d) (with_due o (due_of m.events (p ∷ ps ++ rest)))
    (with_due o (due_of m.events (ps ++ rest))) (with_due o (due_of m.events rest)) l l l tt (Ok tt)
    (one_offered g m o p (ps ++ rest) l x served.0 served.1 r.1)
    (each_offered g (cached_at m x) o ps rest l d served.2 r.2)

-- ---- want of memory

short_failing : (g : Setup) (b : RunTold) (m : Moment) (o : Loose) (l : Led) (x : XorbBlock) (d : CacheTold)
    (e : FileReconstructionError) → OfferBlockCall x m.told.cache d (Err e) → IsGoing g b m o l
    → IsFailing g b (cached_at m d) e
short_failing g b m o l x d e call s =
    let memory : e ≡ error.OutOfMemory = call.memory in
    let same : d ≡ m.told.cache = call.unoffered in
    record {
      slack = s.slack;
      ties = subst (λ (c : CacheTold). Ties g b (record m.told { cache = c }) m.events None s.slack)
          (sym same) s.ties;
      left = subst (λ (y : FileReconstructionError). MayLeave (Some y) b.clients s.slack) (sym memory)
          (short_leaves b.clients s.slack);
      cause = subst (Cause g s.slack.heard b (record m.told { cache = d })) (sym memory) tt;
      unfailed = any_unfailed b.sink.faults m.told.sink.faults e s.unfailed;
      spent = λ h. absurd (let z : error.OutOfMemory ≡ error.UrlExpired = sym memory ∙ h in cc);
      halted = λ yes. memory_halted e memory;
      under = λ u. memory_spent e memory u;
      cache_tells = λ z over tells. subst (CacheTells z) (sym same) (s.cache_tells z over tells);
    }

one_short : (g : Setup) (m : Moment) (o u : Loose) (a : BlockAt) (l : Led) (d : CacheTold)
    (e : FileReconstructionError) → OfferedOne l.plans a m.told.cache d (Err e)
    → LeadPart {A = Unit {0}} g m (cached_at m d) o u l l (Err e)
one_short g m o u a l d e r = by (block_in l.plans a.plan a.block) r
  where
    by : (x : Option XorbBlock) → OfferedBlock x m.told.cache d (Err e)
        → LeadPart {A = Unit {0}} g m (cached_at m d) o u l l (Err e)
    by None t = absurd (let z : ◌≡◌ {A = Answer} (Err e) (Ok tt) = t.1 in cc)
    by (Some x) t = record { ok = λ b s. tt; err = λ b s. short_failing g b m o l x d e t s }

served_first : (es : List Event) (ls : List LedPlan) (xs ys : List BlockAt) → AreServed es ls (xs ++ ys)
    → AreServed es ls xs
served_first es ls [] ys a = tt
served_first es ls (x ∷ xs) ys a = (a.0, a.1, served_first es ls xs ys a.2)

fails_lead : (g : Setup) (m : Moment) (o : Loose) (places : List BlockAt) (l : Led) (d : CacheTold)
    (e : FileReconstructionError) → AreServed m.events l.plans places → OfferFails l.plans places m.told.cache d e
    → LeadPart {A = Unit {0}} g m (cached_at m d) (with_due o (due_of m.events places)) (with_due o 0) l l (Err e)
fails_lead g m o places l d e served f =
    let k = f.count in
    let x = f.last in
    let split : take k places ++ drop k places ≡ places = take-append-drop k places in
    let front = served_first m.events l.plans (take k places) (drop k places)
    (subst (AreServed m.events l.plans) (sym split) served) in
    let first = each_offered g m o (take k places) (drop k places) l x front f.before in
    let last : LeadPart {A = Unit {0}} g (cached_at m x) (cached_at m d)
    (with_due o (due_of m.events (drop k places))) (with_due o 0) l l (Err e) =
    one_short g (cached_at m x) (with_due o (due_of m.events (drop k places)))
    (with_due o 0) f.place l d e f.fails in
    subst (λ (ps : List BlockAt). LeadPart {A = Unit {0}} g m (cached_at m d) (with_due o (due_of m.events ps))
    (with_due o 0) l l (Err e)) split
    (record { ok = λ b s. tt; err = λ b s. last.err b (first.ok b s) })

calls_lead : (g : Setup) (m : Moment) (o : Loose) (places : List BlockAt) (l : Led) (d : CacheTold) (answer : Answer)
    → AreServed m.events l.plans places → OfferCalls l.plans places m.told.cache d answer
    → LeadPart g m (cached_at m d) (with_due o (due_of m.events places)) (with_due o 0) l l answer
calls_lead g m o places l d (Ok tt) served r = subst
    (λ (ps : List BlockAt). LeadPart {A = Unit {0}} g m (cached_at m d) (with_due o (due_of m.events ps))
    (with_due o 0) l l (Ok tt)) (append-nil places) (each_offered g m o places [] l d served r.ok)
calls_lead g m o places l d (Err e) served r = fails_lead g m o places l d e served r.err

pub offer_leads : (places : List BlockAt) (c d : CacheTold) (l : Led) (answer : Answer)
    → OfferCalls l.plans places c d answer → OfferLeads places c d l answer
offer_leads places c d l answer r g m o is served =
    calls_lead g m o places l d answer served (subst (λ (x : CacheTold). OfferCalls l.plans places x d answer)
    (sym is) r)
