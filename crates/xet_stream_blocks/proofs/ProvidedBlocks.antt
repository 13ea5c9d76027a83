-- A stream whose next block was provided.
use Rattle.std.proofs.Common.{◌≡◌, ◌⊎◌, inl, inr, ℕ, zero, suc, ◌+◌, ◌-◌, ◌^◌, ◌==◌, ◌&&◌, ◌||◌, Bool, true, false, List, [], ◌∷◌, ◌++◌, length, refl, sym, subst, ◌∙◌, ap, arith, append_assoc, ⊎_elim, Option, Some, None, Ok, Err}
use Rattle.std.specs.Prelude.{All, Result, count_by, min, slice_get}
use Rattle.std.specs.List.{list_any}
use Rattle.std.proofs.lemmas.Bool.{and_from, eq-eqb}
use Rattle.std.proofs.lemmas.List.Elements.{All-head, All-tail}
use Rattle.std.proofs.lemmas.List.{append-nil}
use Rattle.xet_base.specs.declared.cas_types.ChunkRange.{ChunkRange}
use Rattle.xet_base.specs.declared.merklehash.MerkleHash.{MerkleHash}
use Rattle.xet_outside.specs.Told.{CacheTold, ClientTold, Counted}
use Rattle.xet_outside.specs.declared.block.BlockBytes.{BlockBytes}
use Rattle.xet_error.specs.declared.error.FileReconstructionError.{FileReconstructionError}
use Rattle.xet_blocks.specs.declared.reconstruction_terms.file_term.TermBlock.{TermBlock}
use Rattle.xet_blocks.specs.TermBlockCalls.{AskedAtMostOnce}
use Rattle.xet_offers.specs.declared.reconstruction_terms.xorb_block.XorbBlock.{XorbBlock}
use Rattle.xet_offers.specs.declared.reconstruction_terms.xorb_block.XorbBlockData.{XorbBlockData}
use Rattle.xet_fetch.specs.CachedBlocks.{IsOffered, entry_of}
use Rattle.xet_events.specs.declared.event.Event.{Event}
use Rattle.xet_events.specs.declared.event.Event.TheVariants.{Cached, Expired, Fetched, Refreshed}
use Rattle.xet_events.specs.Allowed.{IsMissing}
use Rattle.xet_events.specs.Events.{is_kept, keeps}
use Rattle.xet_ties.specs.declared.lane_step.LaneStep.TheVariants as step
use Rattle.xet_ties.specs.Gains.{GrewBy}
use Rattle.xet_ties.specs.Setup.{EachGoesOn, Setup, most_lanes}
use Rattle.xet_lane.specs.declared.lane.Fetch.{Fetch}
use Rattle.xet_lane.specs.Fetches.{ask_of}
use Rattle.xet_leader.specs.declared.leader.LedPlan.{LedPlan}
use Rattle.xet_leader.specs.declared.missing_blocks.BlockAt.{BlockAt}
use Rattle.xet_leader.specs.ByNumber.{plan_index}
use Rattle.xet_leader.specs.Expiries.{counted_one, with_stale}
use Rattle.xet_leader.specs.Fetching.{IsFetch}
use Rattle.xet_leader.specs.KeptBlocks.{with_data}
use Rattle.xet_leader.specs.Led.{IsLedPlan, Led}
use Rattle.xet_leader.proofs.CallerLemmas.{led_expired}
use Rattle.xet_stream_rules.specs.StepTold.{AsksFirst, AsksLane, IsTurn, LooksOnce, OffersOnce, is_cached}
use Rattle.xet_stream_rules.specs.Streams.{Carries, nobody}
use Rattle.xet_stream_blocks.specs.steps.Fetching.{Fetches, FirstExpires, KeepCall, Renews, Spends, Unrecorded}
use Rattle.xet_stream_rules.specs.Moments.{At, Goes, at}
use Rattle.xet_stream_blocks.specs.steps.Looking.{Looks}
use Rattle.xet_stream_blocks.specs.Providing.{Provides}
use Rattle.xet_stream_blocks.proofs.Expiring.{late_goes}
use Rattle.xet_stream_blocks.proofs.FetchedBlocks.{offered, own_ask, served_goes}
use Rattle.xet_stream_rules.proofs.CallerLemmas.{goes_both, goes_nowhere, set_goes}
use Rattle.xet_stream_blocks.proofs.BlockCounts.{counts_block}
use Rattle.xet_stream_blocks.proofs.LaneAsks.{same_list}

-- ---- looks and offers

pub no_looks : (k : CacheTold) → LooksOnce [] k k
no_looks k = record {
  looked = same_list k.looked;
  few = omega arith;
  offers = refl;
  entries = refl;
  faults = omega arith;
}

none_grew : (o : Option ℕ) → GrewBy o o 0
none_grew None = tt
none_grew (Some n) = (omega arith, omega arith)

pub no_offers : (k : CacheTold) → OffersOnce k k
no_offers k = record {
  puts = 0;
  offers = none_grew k.offers;
  few = omega arith;
  looked = refl;
  faults = omega arith;
}

counted_grew : (o p : Option ℕ) → Counted o p → GrewBy o p 1
counted_grew None p h = tt
counted_grew (Some n) p h = subst (λ (q : Option ℕ). GrewBy (Some n) q 1) (sym h) (omega arith, omega arith)

pub once_offered : (x : XorbBlock) (rs : List ChunkRange) (m n : CacheTold) (b : BlockBytes) → IsOffered x rs m n b
    → OffersOnce m n
once_offered x [] m n b h = subst (OffersOnce m) (sym h) (no_offers m)
once_offered x (r ∷ []) m n b h = record {
  puts = 1;
  offers = counted_grew m.offers n.offers h.2;
  few = omega arith;
  looked = h.1;
  faults = h.3;
}
once_offered x (r ∷ q ∷ rs) m n b h = subst (OffersOnce m) (sym h) (no_offers m)

-- ---- the block is kept now

own_place : (p b : ℕ) → (p == p && b == b) ≡ true
own_place p b = and_from (p == p) (b == b) (eq-eqb p p refl) (eq-eqb b b refl)

or_true : (v : Bool) → (v || true) ≡ true
or_true true = refl
or_true false = refl

any_last : (p : Event → Bool) (es : List Event) (e : Event) → p e ≡ true → list_any p (es ++ e ∷ []) ≡ true
any_last p [] e h = ap (λ (v : Bool). v || false) h
any_last p (x ∷ es) e h = ap (λ (v : Bool). p x || v) (any_last p es e h) ∙ or_true (p x)

-- where its event keeps it
kept_now : (es fs : List Event) (e : Event) (p b : ℕ) → keeps p b e ≡ true → fs ≡ es ++ e ∷ [] → is_kept fs p b ≡ true
kept_now es fs e p b k h = ap (λ (v : List Event). is_kept v p b) h ∙ any_last (keeps p b) es e k

-- ---- the block is kept already, or was found

pub provides_kept : (g : Setup) (x : At) (c : BlockAt) → is_kept x.events c.plan c.block ≡ true → Provides g x x c
provides_kept g x c kept = record {
  block = None;
  again = None;
  new = [];
  added = sym (append-nil x.events);
  lane = 0;
  turn = tt;
  fetched = x.clients;
  asked = refl;
  renewed = refl;
  is = inl refl;
  cache = record {
    looks = [];
    looked = x.cache;
    look = no_looks x.cache;
    offer = no_offers x.cache;
    cached = omega arith;
  };
  kept = λ e. kept;
  goes = goes_nowhere g x;
  fetches = refl;
  finished = refl;
  admitted = refl;
}

pub provides_found : (g : Setup) (x y : At) (c : BlockAt) → y.clients ≡ x.clients → Looks g x y c true
    → Provides g x y c
provides_found g x y c same l =
    let one = l.given refl in
    let n : length l.looks ≡ 1 = ap length one.1 in
    record {
      block = None;
      again = None;
      new = Cached c.plan c.block ∷ [];
      added = l.added;
      lane = 0;
      turn = tt;
      fetched = x.clients;
      asked = refl;
      renewed = same;
      is = inr refl;
      cache = record {
        looks = l.looks;
        looked = y.cache;
        look = l.looked;
        offer = no_offers y.cache;
        cached = (let k : count_by is_cached (Cached c.plan c.block ∷ []) ≡ 1 = refl in omega (arith, n, k));
      };
      kept = λ e. kept_now x.events y.events (Cached c.plan c.block) c.plan c.block (own_place c.plan c.block) l.added;
      goes = l.goes;
      fetches = ap (λ (z : Led). z.fetches) l.led;
      finished = ap (λ (z : Led). z.finished) l.led;
      admitted = ap (λ (z : Led). z.admitted) l.led;
    }

-- ---- it was asked for after a look

pub provides_fetched : (g : Setup) (x m y : At) (c : BlockAt) → m.clients ≡ x.clients → Looks g x m c false
    → Fetches g m y c → Provides g x y c
provides_fetched g x m y c same l f =
    let block = counts_block f.lane c (Some (f.ask, f.step)) f.again f.new f.is in
    let one = block.one in
    let few = block.few in
    let cached = block.are.cached_are in
    let none : m.events ≡ x.events = l.added ∙ append-nil x.events in
    let fetches : m.led.fetches ≡ x.led.fetches = ap (λ (z : Led). z.fetches) l.led in
    record {
      block = Some (f.ask, f.step);
      again = f.again;
      new = f.new;
      added = f.added ∙ ap (λ (e : List Event). e ++ f.new) none;
      lane = f.lane;
      turn = subst (λ (k : ℕ). IsTurn k (min (length x.clients) most_lanes) f.lane) fetches
          (subst (λ (cs : List ClientTold). IsTurn m.led.fetches (min (length cs) most_lanes) f.lane) same f.turn);
      fetched = f.fetched;
      asked = subst (λ (cs : List ClientTold). AsksLane f.lane f.ask f.step cs f.fetched) same f.asked;
      renewed = f.renewed;
      is = f.is;
      cache = record {
        looks = l.looks;
        looked = m.cache;
        look = l.looked;
        offer = f.offer;
        cached = omega (arith, one, few, cached);
      };
      kept = f.kept;
      goes = goes_both g x m y l.goes f.goes;
      fetches = f.fetches ∙ ap (λ (k : ℕ). min (k + 1) (2 ^ 64 - 1)) fetches;
      finished = f.finished ∙ ap (λ (z : Led). z.finished) l.led;
      admitted = f.admitted ∙ ap (λ (z : Led). z.admitted) l.led;
    }

-- ---- one fetch

pub plan_in : (P : LedPlan → Type 0) (ls : List LedPlan) (i : ℕ) (l : LedPlan) → slice_get ls i ≡ Some l → All P ls → P l
plan_in P [] i l h a = absurd (cc)
plan_in P (k ∷ ls) zero l h a = let same : k ≡ l = cc in subst P same (All-head P k ls a)
plan_in P (k ∷ ls) (suc i) l h a = plan_in P ls i l h (All-tail P k ls a)

module _ (g : Setup) (es : List Event) (l : Led) (c : Carries nobody g es l) (cs ds : List ClientTold) (a : BlockAt)
    (missing : IsMissing es a.plan a.block) (f : Fetch) (n : ℕ) (is : IsFetch l.plans a n f) (lane : ℕ)
    (turn : IsTurn l.fetches (min (length cs) most_lanes) lane) (t u : CacheTold) (fs : List Event) (k : Led) where
  abbrev next : ℕ
  next = min (l.fetches + 1) (2 ^ 64 - 1)

  -- it was served
  pub served_fetches : (p j : ℕ) (d : XorbBlockData) → AsksLane lane (ask_of f) (step.Served p j d) cs ds
      → KeepCall lane a d t u es fs (record l { fetches = next }) k (Ok tt)
      → Fetches g (at es l cs t) (at fs k ds u) a
  served_fetches p j d asked (inl h) = absurd (let e = h.0.memory in cc)
  served_fetches p j d asked (inr h) =
      let own = own_ask g es l c cs a missing f n is lane asked.before asked.after asked.at in
      let offer = offered g es l c cs a missing f n is lane asked.before asked.after asked.at p j d asked.did lane next t
      u fs k (Ok tt) h in
      let goes = served_goes g es l c cs a missing f n is lane asked.before asked.after asked.at p j d asked.did lane
      next t u fs k (Ok tt) h in
      record {
        ask = ask_of f;
        step = step.Served p j d;
        again = None;
        new = Fetched lane a.plan a.block ∷ [];
        added = h.events;
        lane = lane;
        turn = turn;
        fetched = ds;
        asked = asked;
        renewed = refl;
        is = (p, j, d, refl, asked.did.is.0 ∙ own.plan, asked.did.is.1 ∙ own.index, refl);
        offer = once_offered (with_data f.block.now d) f.block.now.chunk_ranges t u (entry_of d) offer.offered;
        kept = λ e. kept_now es fs (Fetched lane a.plan a.block) a.plan a.block (own_place a.plan a.block) h.events;
        goes = subst (λ (xs : List ClientTold). Goes g (at es l cs t) (at fs k xs u)) (sym asked.is) goes;
        fetches = ap (λ (z : Led). z.fetches) h.led;
        finished = ap (λ (z : Led). z.finished) h.led;
        admitted = ap (λ (z : Led). z.admitted) h.led;
      }

  -- its URL had expired, and the plan was asked for again
  module _ (p j : ℕ) (asked : AsksLane lane (ask_of f) (step.Expired p j) cs ds) (ns : List ClientTold) (multi : Bool)
      (h : FirstExpires lane a g.tries multi ds ns es fs (record l { fetches = next }) k (Ok tt))
      (r : Renews lane a g.tries multi h.first h.next es fs (record l { fetches = next }) k (Ok tt)) where
    abbrev again : TermBlock
    again = r.call.call.plan.block

    led_now : IsLedPlan g nobody (es ++ Expired lane a.plan a.block ∷ []) c.slack (with_stale a.plan []) r.call.call.plan
    led_now =
        let led = led_expired g nobody es c.slack [] lane a.plan a.block l r.counted.counts.left missing c.led in
        plan_in (IsLedPlan g nobody (es ++ Expired lane a.plan a.block ∷ []) c.slack (with_stale a.plan []))
        (counted_one (a.plan, a.block) l.plans) (plan_index r.middle.plans a.plan) r.call.call.plan
        (subst (λ (ls : List LedPlan). slice_get ls (plan_index r.middle.plans a.plan) ≡ Some r.call.call.plan)
        r.counted.counts.counted r.call.call.at) led.plans.each

    asks_again : AsksFirst g.file again.urls.byte_range ds ns
    asks_again =
        let m = r.call.call.call.may in
        record {
          first = h.first;
          next = h.next;
          others = h.others;
          before = h.before;
          after = h.after;
          goes_on = record { store = m.store; link = m.link; faults = m.faults; expiries = m.expiries };
          served = m.served;
          asks = subst (λ (x : MerkleHash). AskedAtMostOnce h.first h.next (x, again.urls.byte_range)) led_now.table.file
              m.asks;
        }

    named : step.Expired p j ≡ step.Expired a.plan a.block
    named =
        let own = own_ask g es l c cs a missing f n is lane asked.before asked.after asked.at in
        ap (λ (q : ℕ). step.Expired q j) (asked.did.is.0 ∙ own.plan)
        ∙ ap (λ (q : ℕ). step.Expired a.plan q) (asked.did.is.1 ∙ own.index)

    pub renewed_fetches : Fetches g (at es l cs t) (at fs k ns t) a
    renewed_fetches =
        let on = set_goes cs lane asked.before asked.after asked.at asked.did.goes_on in
        let goes = late_goes g es l a missing lane next multi cs ds h.first h.next h.others
        (subst (λ (xs : List ClientTold). EachGoesOn cs xs) (sym asked.is) on) h.before t fs k r in
        record {
          ask = ask_of f;
          step = step.Expired p j;
          again = Some again.urls.byte_range;
          new = Expired lane a.plan a.block ∷ Refreshed a.plan ∷ [];
          added = r.call.call.call.recorded
              ∙ append_assoc es (Expired lane a.plan a.block ∷ []) (Refreshed a.plan ∷ []);
          lane = lane;
          turn = turn;
          fetched = ds;
          asked = asked;
          renewed = asks_again;
          is = (named, refl);
          offer = no_offers t;
          kept = λ e. absurd (cc);
          goes = subst (λ (xs : List ClientTold). Goes g (at es l cs t) (at fs k xs t)) (sym h.after) goes;
          fetches = ap (λ (z : Led). z.fetches) r.call.led ∙ ap (λ (z : Led). z.fetches) r.counted.led;
          finished = ap (λ (z : Led). z.finished) r.call.led ∙ ap (λ (z : Led). z.finished) r.counted.led;
          admitted = ap (λ (z : Led). z.admitted) r.call.led ∙ ap (λ (z : Led). z.admitted) r.counted.led;
        }

  pub late_fetches : (p j : ℕ) → AsksLane lane (ask_of f) (step.Expired p j) cs ds → (ns : List ClientTold)
      (multi : Bool) → FirstExpires lane a g.tries multi ds ns es fs (record l { fetches = next }) k (Ok tt)
      → Fetches g (at es l cs t) (at fs k ns t) a
  late_fetches p j asked ns multi h =
      ⊎_elim (λ (z : Unrecorded es fs (record l { fetches = next }) k (Ok tt) × (h.next ≡ h.first)).
      absurd (let e = z.0.memory in cc))
      (⊎_elim
      (λ (z : (e : FileReconstructionError) × (◌≡◌ {A = Result (Unit {0}) FileReconstructionError} (Ok tt) (Err e))
      × Spends lane a g.tries es fs (record l { fetches = next }) k e × (h.next ≡ h.first)).
      absurd (let e : ◌≡◌ {A = Result (Unit {0}) FileReconstructionError} (Ok tt) (Err z.0) = z.1 in cc))
      (λ (z : Renews lane a g.tries multi h.first h.next es fs (record l { fetches = next }) k (Ok tt)).
      renewed_fetches p j asked ns multi h z))
      h.call
