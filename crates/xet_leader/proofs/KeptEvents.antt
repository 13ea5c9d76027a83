-- A leader after an event that keeps a block: it was fetched, or the cache gave it.
use Rattle.std.proofs.Common.{◌≡◌, ℕ, ◌+◌, ◌<◌, ◌≤◌, ◌==◌, ◌&&◌, ◌||◌, suc, zero, Bool, true, false, List, [], ◌∷◌, ◌++◌, length, refl, sym, subst, ◌∙◌, ap, arith}
use Rattle.std.specs.Prelude.{All, count_by, map, Some, slice_get, slice_set}
use Rattle.std.specs.List.{list_any}
use Rattle.std.proofs.lemmas.Bool.{eq-eqb, eqb-true, ne_eqb}
use Rattle.std.proofs.lemmas.List.{length-set}
use Rattle.std.proofs.lemmas.List.Elements.{All-cons, All-head, All-nil, All-tail}
use Rattle.xet_offers.specs.declared.reconstruction_terms.xorb_block.XorbBlock.{XorbBlock}
use Rattle.xet_offers.specs.declared.reconstruction_terms.xorb_block.XorbBlockData.{XorbBlockData}
use Rattle.xet_events.specs.declared.event.Event.{Event}
use Rattle.xet_events.specs.declared.event.Event.TheVariants.{Cached, Fetched}
use Rattle.xet_events.specs.declared.event.PlannedBlock.{PlannedBlock}
use Rattle.xet_events.specs.Events.{expires, expiry_in, is_admit, keeps, taken_in, tasks_of}
use Rattle.xet_events.proofs.CallerLemmas.{any-push}
use Rattle.xet_history.specs.TrueHistory.{planned_term}
use Rattle.xet_ties.specs.History.{expiry_of, fetches}
use Rattle.xet_ties.specs.Saids.{planned_of}
use Rattle.xet_ties.specs.Setup.{RunTold, Setup}
use Rattle.xet_ties.specs.Ties.{Slack}
use Rattle.xet_ties.proofs.CallerLemmas.{count-same, fetched_before}
use Rattle.xet_leader.specs.declared.leader.LedPlan.{LedPlan}
use Rattle.xet_leader.specs.Led.{AreLedPlans, EachLedBlock, FollowOn, IsAnswerData, IsLed, IsLedBlock, IsLedData, IsLedPlan, IsRecordedPlan, Led, bare}
use Rattle.xet_leader.specs.KeptBlocks.{kept_in_plan, kept_in_plans, with_data}
use Rattle.xet_leader.proofs.AlikePlans.{AllPast, alike_begins, alike_follow, alike_number, alike_set, alike_terms, follow_rest, past_at, past_first}
use Rattle.xet_leader.proofs.MoreTold.{TellsMore, led_more}
use Rattle.xet_leader.proofs.QuietEvents.{IsQuiet, quiet_counted, quiet_kept, quiet_manager, quiet_numbered, quiet_ready, quiet_recorded, quiet_running, quiet_stale, quiet_under}

-- an event that keeps this block of this plan, and does nothing else
pub record IsKeeping (p k : ℕ) (e : Event) : Type 0 where
  pub quiet : IsQuiet e
  pub admits : is_admit e ≡ false
  pub takes : taken_in e ≡ 0
  pub expires_none : (q j : ℕ) → expires q j e ≡ false
  pub expiry : (q j : ℕ) → expiry_of q j e ≡ []
  pub renews_none : (q : ℕ) → expiry_in q e ≡ []
  pub keeps_it : keeps p k e ≡ true
  pub keeps_other : (q j : ℕ) → (q ≡ p → j ≡ k → ⊥) → keeps q j e ≡ false

same_pair : (p k : ℕ) → (p == p && k == k) ≡ true
same_pair p k = ap (λ (v : Bool). v && (k == k)) (eq-eqb p p refl) ∙ eq-eqb k k refl

other_pair : (p k q j : ℕ) → (q ≡ p → j ≡ k → ⊥) → (p == q && k == j) ≡ false
other_pair p k q j off = go (p == q) refl
  where
    go : (v : Bool) → (p == q) ≡ v → (p == q && k == j) ≡ false
    go false e = ap (λ (v : Bool). v && (k == j)) e
    go true e = ap (λ (v : Bool). v && (k == j)) e ∙ ne_eqb k j (λ h. off (sym (eqb-true p q e)) (sym h))

pub fetched_keeps : (lane p k : ℕ) → IsKeeping p k (Fetched lane p k)
fetched_keeps lane p k = record {
  quiet = record { tasks = refl; plan = refl; query = refl; error = refl };
  admits = refl;
  takes = refl;
  expires_none = λ q j. refl;
  expiry = λ q j. refl;
  renews_none = λ q. refl;
  keeps_it = same_pair p k;
  keeps_other = λ q j off. other_pair p k q j off;
}

pub cached_keeps : (p k : ℕ) → IsKeeping p k (Cached p k)
cached_keeps p k = record {
  quiet = record { tasks = refl; plan = refl; query = refl; error = refl };
  admits = refl;
  takes = refl;
  expires_none = λ q j. refl;
  expiry = λ q j. refl;
  renews_none = λ q. refl;
  keeps_it = same_pair p k;
  keeps_other = λ q j off. other_pair p k q j off;
}

-- ---- blocks

-- a block that the event doesn't keep
block_same : (b : RunTold) (es : List Event) (e : Event) (sl : Slack) (p k q j t : ℕ) (x : XorbBlock)
    → IsKeeping p k e → (q ≡ p → j ≡ k → ⊥) → IsLedBlock b es sl q j t x → IsLedBlock b (es ++ e ∷ []) sl q j t x
block_same b es e sl p k q j t x n off a = record {
  tries_are = a.tries_are ∙ sym (count-same (expires q j) es e (n.expires_none q j));
  kept = a.kept ∙ sym (quiet_kept es e q j (n.keeps_other q j off));
  data_is = a.data_is;
  fetched = λ h. a.fetched (fetched_before es e q j (n.keeps_other q j off) h);
}

-- blocks from a number on, none of which it keeps
blocks_same : (b : RunTold) (es : List Event) (e : Event) (sl : Slack) (p k q j : ℕ) (ts : List ℕ)
    (xs : List XorbBlock) → IsKeeping p k e → ((i : ℕ) → j ≤ i → q ≡ p → i ≡ k → ⊥) → EachLedBlock b es sl q j ts xs
    → EachLedBlock b (es ++ e ∷ []) sl q j ts xs
blocks_same b es e sl p k q j [] [] n off a = tt
blocks_same b es e sl p k q j [] (x ∷ xs) n off a = absurd a
blocks_same b es e sl p k q j (t ∷ ts) [] n off a = absurd a
blocks_same b es e sl p k q j (t ∷ ts) (x ∷ xs) n off a = (
  block_same b es e sl p k q j t x n (off j (omega arith)) a.0,
  blocks_same b es e sl p k q (j + 1) ts xs n (λ i h. off i (omega arith)) a.1,
)

-- data that a block keeps by the event: of the answer to its own request where the event is its fetch
pub record IsKeptData (b : RunTold) (es : List Event) (e : Event) (sl : Slack) (p k : ℕ) (x : XorbBlock)
    (d : XorbBlockData) : Type 0 where
  pub data_is : IsLedData b sl p k (with_data x d)
  pub fetched : 0 < count_by (fetches p k) (es ++ e ∷ []) → IsAnswerData sl p k (bare x) d

-- the block that it keeps
block_kept : (b : RunTold) (es : List Event) (e : Event) (sl : Slack) (p k t : ℕ) (x : XorbBlock) (d : XorbBlockData)
    → IsKeeping p k e → IsKeptData b es e sl p k x d → IsLedBlock b es sl p k t x
    → IsLedBlock b (es ++ e ∷ []) sl p k t (with_data x d)
block_kept b es e sl p k t x d n h a = record {
  tries_are = a.tries_are ∙ sym (count-same (expires p k) es e (n.expires_none p k));
  kept = sym (any-push (keeps p k) es e ∙ ap (λ (v : Bool). list_any (keeps p k) es || v) n.keeps_it
      ∙ or_yes (list_any (keeps p k) es));
  data_is = h.data_is;
  fetched = h.fetched;
}
  where
    or_yes : (v : Bool) → (v || true) ≡ true
    or_yes true = refl
    or_yes false = refl

-- blocks from a number on, one of which it keeps
blocks_kept : (b : RunTold) (es : List Event) (e : Event) (sl : Slack) (p k j i : ℕ) (ts : List ℕ)
    (xs : List XorbBlock) (x : XorbBlock) (d : XorbBlockData) → IsKeeping p k e → j + i ≡ k → slice_get xs i ≡ Some x
    → IsKeptData b es e sl p k x d → EachLedBlock b es sl p j ts xs
    → EachLedBlock b (es ++ e ∷ []) sl p j ts (slice_set xs i (with_data x d))
blocks_kept b es e sl p k j i [] [] x d n at is h a = absurd (cc)
blocks_kept b es e sl p k j i [] (y ∷ xs) x d n at is h a = absurd a
blocks_kept b es e sl p k j i (t ∷ ts) [] x d n at is h a = absurd a
blocks_kept b es e sl p k j zero (t ∷ ts) (y ∷ xs) x d n at is h a =
    let here : j ≡ k = omega arith in
    let same : y ≡ x = cc in
    let old : IsLedBlock b es sl p k t x = subst (λ (z : XorbBlock). IsLedBlock b es sl p k t z) same
    (subst (λ (m : ℕ). IsLedBlock b es sl p m t y) here a.0) in (
      subst (λ (m : ℕ). IsLedBlock b (es ++ e ∷ []) sl p m t (with_data x d)) (sym here)
          (block_kept b es e sl p k t x d n h old),
      blocks_same b es e sl p k p (j + 1) ts xs n
          (λ m le s z. omega arith) a.1,
    )
blocks_kept b es e sl p k j (suc i) (t ∷ ts) (y ∷ xs) x d n at is h a = (
  block_same b es e sl p k p j t y n (λ s z. omega arith) a.0,
  blocks_kept b es e sl p k (j + 1) i ts xs x d n (omega arith) is h a.1,
)

-- what the history has of the blocks stays
pub set_bare : (xs : List XorbBlock) (k : ℕ) (x : XorbBlock) (d : XorbBlockData) → slice_get xs k ≡ Some x
    → map bare (slice_set xs k (with_data x d)) ≡ map bare xs
set_bare [] k x d h = refl
set_bare (y ∷ xs) zero x d h = let same : y ≡ x = cc in ap (λ (z : XorbBlock). bare z ∷ map bare xs) (sym same)
set_bare (y ∷ xs) (suc k) x d h = ap (λ (zs : List XorbBlock). bare y ∷ zs) (set_bare xs k x d h)

pub set_planned : (xs : List XorbBlock) (k : ℕ) (x : XorbBlock) (d : XorbBlockData) → slice_get xs k ≡ Some x
    → map planned_of (slice_set xs k (with_data x d)) ≡ map planned_of xs
set_planned [] k x d h = refl
set_planned (y ∷ xs) zero x d h = let same : y ≡ x = cc in
    ap (λ (z : XorbBlock). planned_of z ∷ map planned_of xs) (sym same)
set_planned (y ∷ xs) (suc k) x d h = ap (λ (zs : List PlannedBlock). planned_of y ∷ zs) (set_planned xs k x d h)

-- ---- plans

recorded_kept : (es : List Event) (l : LedPlan) (k : ℕ) (x : XorbBlock) (d : XorbBlockData)
    → slice_get l.block.blocks k ≡ Some x → IsRecordedPlan es l → IsRecordedPlan es (kept_in_plan l k x d)
recorded_kept es l k x d is r =
    let same = sym (set_planned l.block.blocks k x d is) in
    record {
      blocks = r.blocks ∙ ap Some same;
      at_range = r.at_range;
      tasks = r.tasks ∙ ap (λ (bs : List PlannedBlock). tasks_of l.number (map planned_term l.block.terms) bs) same;
    }

-- a plan that has not the block
plan_same : (g : Setup) (b : RunTold) (es : List Event) (e : Event) (sl : Slack) (stale : List ℕ) (p k : ℕ)
    (l : LedPlan) → IsKeeping p k e → (l.number ≡ p → ⊥) → IsLedPlan g b es sl stale l
    → IsLedPlan g b (es ++ e ∷ []) sl stale l
plan_same g b es e sl stale p k l n off a = record {
  plan = a.plan;
  query = a.query;
  accepted = a.accepted;
  said_as = a.said_as;
  terms = a.terms;
  blocks = a.blocks;
  true_plan = a.true_plan;
  table = a.table;
  recorded = quiet_recorded es e l n.quiet a.recorded;
  each = blocks_same b es e sl p k l.number 0 l.tries.items l.block.blocks n (λ i le s z. off s) a.each;
  ready = λ j h. quiet_ready g es e stale l.number j (n.expires_none l.number j) (n.expiry l.number j) (a.ready j h);
}

-- the plan that has it
plan_kept : (g : Setup) (b : RunTold) (es : List Event) (e : Event) (sl : Slack) (stale : List ℕ) (k : ℕ)
    (l : LedPlan) (x : XorbBlock) (d : XorbBlockData) → IsKeeping l.number k e → slice_get l.block.blocks k ≡ Some x
    → IsKeptData b es e sl l.number k x d → IsLedPlan g b es sl stale l
    → IsLedPlan g b (es ++ e ∷ []) sl stale (kept_in_plan l k x d)
plan_kept g b es e sl stale k l x d n is h a =
    let long : length (slice_set l.block.blocks k (with_data x d)) ≡ length l.block.blocks =
    length-set l.block.blocks k (with_data x d) in
    record {
      plan = a.plan;
      query = a.query;
      accepted = a.accepted;
      said_as = a.said_as;
      terms = a.terms;
      blocks = set_bare l.block.blocks k x d is ∙ a.blocks;
      true_plan = a.true_plan;
      table = record {
        file = a.table.file;
        range_is = a.table.range_is;
        number = a.table.number;
        each = a.table.each
            ∙ sym long;
      };
      recorded = quiet_recorded es e (kept_in_plan l k x d) n.quiet (recorded_kept es l k x d is a.recorded);
      each = blocks_kept b es e sl l.number k 0 k l.tries.items l.block.blocks x d n (omega arith) is h a.each;
      ready = λ j m. quiet_ready g es e stale l.number j (n.expires_none l.number j) (n.expiry l.number j)
          (a.ready j (omega (arith, m, long)));
    }

-- plans with greater numbers than one that has it
later_same : (g : Setup) (b : RunTold) (es : List Event) (e : Event) (sl : Slack) (stale : List ℕ) (p k : ℕ)
    (ls : List LedPlan) → IsKeeping p k e → AllPast p ls → All (IsLedPlan g b es sl stale) ls
    → All (IsLedPlan g b (es ++ e ∷ []) sl stale) ls
later_same g b es e sl stale p k [] n off a = All-nil (IsLedPlan g b (es ++ e ∷ []) sl stale)
later_same g b es e sl stale p k (l ∷ ls) n off a =
    All-cons (IsLedPlan g b (es ++ e ∷ []) sl stale) l ls
    (plan_same g b es e sl stale p k l n (let past : p < l.number = off.0 in λ s. omega arith)
    (All-head (IsLedPlan g b es sl stale) l ls a))
    (later_same g b es e sl stale p k ls n off.1 (All-tail (IsLedPlan g b es sl stale) l ls a))

each_kept : (g : Setup) (b : RunTold) (es : List Event) (e : Event) (sl : Slack) (stale : List ℕ) (ls : List LedPlan)
    (i k : ℕ) (l : LedPlan) (x : XorbBlock) (d : XorbBlockData) → IsKeeping l.number k e → FollowOn ls
    → slice_get ls i ≡ Some l → slice_get l.block.blocks k ≡ Some x → IsKeptData b es e sl l.number k x d
    → All (IsLedPlan g b es sl stale) ls → All (IsLedPlan g b (es ++ e ∷ []) sl stale)
    (slice_set ls i (kept_in_plan l k x d))
each_kept g b es e sl stale [] i k l x d n f at is h a = absurd (cc)
each_kept g b es e sl stale (m ∷ ls) zero k l x d n f at is h a =
    let same : m ≡ l = cc in
    let first : IsLedPlan g b es sl stale l = subst (IsLedPlan g b es sl stale) same
    (All-head (IsLedPlan g b es sl stale) m ls a) in
    let past : AllPast l.number ls = subst (λ (z : LedPlan). AllPast z.number ls) same
    (past_first m.number m ls (omega arith) f) in
    All-cons (IsLedPlan g b (es ++ e ∷ []) sl stale) (kept_in_plan l k x d) ls
    (plan_kept g b es e sl stale k l x d n is h first)
    (later_same g b es e sl stale l.number k ls n past (All-tail (IsLedPlan g b es sl stale) m ls a))
each_kept g b es e sl stale (m ∷ ls) (suc i) k l x d n f at is h a =
    let past : m.number < l.number = past_at m.number ls i l (past_first m.number m ls (omega arith) f) at in
    All-cons (IsLedPlan g b (es ++ e ∷ []) sl stale) m (slice_set ls i (kept_in_plan l k x d))
    (plan_same g b es e sl stale l.number k m n (λ s. omega arith) (All-head (IsLedPlan g b es sl stale) m ls a))
    (each_kept g b es e sl stale ls i k l x d n (follow_rest m ls f) at is h
    (All-tail (IsLedPlan g b es sl stale) m ls a))

plans_kept : (g : Setup) (b : RunTold) (es : List Event) (e : Event) (sl : Slack) (stale : List ℕ) (l : Led) (i k : ℕ)
    (p : LedPlan) (x : XorbBlock) (d : XorbBlockData) → IsKeeping p.number k e → slice_get l.plans i ≡ Some p
    → slice_get p.block.blocks k ≡ Some x → IsKeptData b es e sl p.number k x d
    → AreLedPlans g b es sl stale l → AreLedPlans g b (es ++ e ∷ []) sl stale
    (record l { plans = kept_in_plans l.plans i p k x d })
plans_kept g b es e sl stale l i k p x d n at is h a =
    let ks : List LedPlan = kept_in_plans l.plans i p k x d in
    let alike = alike_set l.plans i p (kept_in_plan p k x d) at
    (record { number = refl; first = refl; terms = refl }) in
    record {
      each = each_kept g b es e sl stale l.plans i k p x d n a.follow at is h a.each;
      follow = alike_follow l.plans ks alike a.follow;
      numbered = λ e0. quiet_numbered es e ks n.quiet (alike_number _ l.plans ks alike (a.numbered e0));
      last = alike_terms l.planned l.plans ks alike a.last;
      first = alike_begins l.finished l.planned l.plans ks alike a.first;
    }

-- the leader, whose plan at this place keeps this data in this block now, by what is told then
pub led_kept : (g : Setup) (b : RunTold) (es : List Event) (e : Event) (sl to : Slack) (stale : List ℕ) (l : Led)
    (i k : ℕ) (p : LedPlan) (x : XorbBlock) (d : XorbBlockData) → IsKeeping p.number k e → TellsMore sl to
    → slice_get l.plans i ≡ Some p → slice_get p.block.blocks k ≡ Some x
    → IsKeptData b es e to p.number k x d → IsLed g b es sl stale l
    → IsLed g b (es ++ e ∷ []) to stale (record l { plans = kept_in_plans l.plans i p k x d })
led_kept g b es e sl to stale l i k p x d n more at is h before =
    let a = led_more g b es sl to stale l more before in
    let counted = quiet_counted es e l n.quiet n.admits n.takes a.counted in
    record {
      running = quiet_running es e n.quiet a.running;
      some = a.some;
      tries = a.tries;
      stale_are = quiet_stale es e stale n.renews_none a.stale_are;
      under = quiet_under g es e n.expires_none a.under;
      manager = quiet_manager g es e l.manager n.quiet a.manager;
      plans = plans_kept g b es e to stale l i k p x d n at is h a.plans;
      counted = record {
        planned_are = counted.planned_are;
        planned_fits = counted.planned_fits;
        admitted_are = counted.admitted_are;
        finished_within = counted.finished_within;
        admitted_within = counted.admitted_within;
        written_are = counted.written_are;
      };
    }
