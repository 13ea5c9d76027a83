-- A leader after an answer that a URL of a block had expired.
use Rattle.std.proofs.Common.{◌≡◌, ℕ, zero, suc, ◌+◌, ◌<◌, ◌≤◌, Bool, true, false, cond, List, [], ◌∷◌, ◌++◌, length, refl, sym, subst, ◌∙◌, ap, arith, inl, inr, ⊎_elim, Option, Some, None}
use Rattle.std.specs.Prelude.{All, Contains, ◌==◌, ◌&&◌, count_by, nat_le, nat_lt, slice_get, slice_index, slice_set, filter}
use Rattle.std.specs.List.{list_any}
use Rattle.std.specs.Vec.{with_item}
use Rattle.std.proofs.lemmas.Bool.{and_from, and_left, and_parts, and_right, cases_eq, eq-eqb, eqb-true, leb-false, leb-true, lt-ltb, ltb-false, ltb-true, ne_eqb, or_parts}
use Rattle.std.proofs.lemmas.List.{set_past}
use Rattle.std.proofs.lemmas.List.Elements.{All-head, All-tail, Contains-append_left, Contains-push}
use Rattle.std.proofs.lemmas.Map.Views.{Contains-from_any}
use Rattle.std.proofs.lemmas.Option.{slice_get_within}
use Rattle.xet_offers.specs.declared.reconstruction_terms.xorb_block.XorbBlock.{XorbBlock}
use Rattle.xet_events.specs.declared.event.Event.{Event}
use Rattle.xet_events.specs.declared.event.Event.TheVariants.{Expired}
use Rattle.xet_events.specs.Allowed.{IsMissing}
use Rattle.xet_events.specs.Events.{expires, expiry_in, is_stale, last_of}
use Rattle.xet_events.proofs.CallerLemmas.{stale-push}
use Rattle.xet_ties.specs.History.{is_expired}
use Rattle.xet_ties.specs.Setup.{RunTold, Setup}
use Rattle.xet_ties.specs.Ties.{Slack}
use Rattle.xet_ties.proofs.CallerLemmas.{count-more, count-same, fetched_before, expired-push}
use Rattle.xet_leader.specs.declared.leader.LedPlan.{LedPlan}
use Rattle.xet_leader.specs.declared.missing_blocks.BlockAt.{BlockAt}
use Rattle.xet_leader.specs.ByNumber.{plan_index}
use Rattle.xet_leader.specs.Expiries.{counted_one, one_more, spends_in, spends_of, spends_one, with_stale}
use Rattle.xet_leader.specs.Led.{AreLedPlans, AreStale, EachLedBlock, IsLed, IsLedBlock, IsLedPlan, IsReady, Led}
use Rattle.xet_leader.proofs.AlikePlans.{IsAlike, alike_begins, alike_follow, alike_number, alike_terms}
use Rattle.xet_leader.proofs.AwaitedBlocks.{awaited}
use Rattle.xet_leader.proofs.ChangedPlans.{alike_changed, change_all}
use Rattle.xet_leader.proofs.QuietEvents.{IsQuiet, quiet_counted, quiet_kept, quiet_manager, quiet_numbered, quiet_recorded, quiet_running}

-- ---- tests

same_number : (n : ℕ) → (n == n) ≡ true
same_number n = eq-eqb n n refl

turned : (a b : ℕ) → (a == b) ≡ false → (b == a) ≡ false
turned a b h = ne_eqb b a (λ e. let z = eq-eqb a b (sym e) in absurd (let y : true ≡ false = sym z ∙ h in cc))

is_quiet : (lane p j : ℕ) → IsQuiet (Expired lane p j)
is_quiet lane p j = record { tasks = refl; plan = refl; query = refl; error = refl }

-- ---- the blocks of a plan

block_off : (b : RunTold) (es : List Event) (sl : Slack) (lane p j q k t : ℕ) (x : XorbBlock)
    → (p == q && j == k) ≡ false → IsLedBlock b es sl q k t x → IsLedBlock b (es ++ Expired lane p j ∷ []) sl q k t x
block_off b es sl lane p j q k t x off a = record {
  tries_are = a.tries_are ∙ sym (count-same (expires q k) es (Expired lane p j) off);
  kept = a.kept ∙ sym (quiet_kept es (Expired lane p j) q k refl);
  data_is = a.data_is;
  fetched = λ h. a.fetched (fetched_before es (Expired lane p j) q k refl h);
}

blocks_off : (b : RunTold) (es : List Event) (sl : Slack) (lane p j q k : ℕ) (ts : List ℕ) (xs : List XorbBlock)
    → ((i : ℕ) → k ≤ i → (p == q && j == i) ≡ false) → EachLedBlock b es sl q k ts xs
    → EachLedBlock b (es ++ Expired lane p j ∷ []) sl q k ts xs
blocks_off b es sl lane p j q k [] [] off a = tt
blocks_off b es sl lane p j q k [] (x ∷ xs) off a = absurd a
blocks_off b es sl lane p j q k (t ∷ ts) [] off a = absurd a
blocks_off b es sl lane p j q k (t ∷ ts) (x ∷ xs) off a = (
  block_off b es sl lane p j q k t x (off k (omega arith)) a.0,
  blocks_off b es sl lane p j q (k + 1) ts xs (λ i h. off i (omega (arith, h))) a.1,
)

apart : (p j i : ℕ) → (j ≡ i → ⊥) → (p == p && j == i) ≡ false
apart p j i h = and_right (p == p) (j == i) (ne_eqb j i h)

-- the count of the block rises
blocks_on : (b : RunTold) (es : List Event) (sl : Slack) (lane p j k i : ℕ) (ts : List ℕ) (xs : List XorbBlock)
    → k + i ≡ j → EachLedBlock b es sl p k ts xs
    → EachLedBlock b (es ++ Expired lane p j ∷ []) sl p k (slice_set ts i (slice_index ts i + 1)) xs
blocks_on b es sl lane p j k i [] [] e a = tt
blocks_on b es sl lane p j k i [] (x ∷ xs) e a = absurd a
blocks_on b es sl lane p j k i (t ∷ ts) [] e a = absurd a
blocks_on b es sl lane p j k zero (t ∷ ts) (x ∷ xs) e a =
    let at : j ≡ k = omega (arith, e) in
    let more = count-more (expires p k) es (Expired lane p j)
    (and_from (p == p) (j == k) (same_number p) (eq-eqb j k at)) in
    let was = a.0.tries_are in (
      record {
        tries_are = omega (arith, more, was);
        kept = a.0.kept
            ∙ sym (quiet_kept es (Expired lane p j) p k refl);
        data_is = a.0.data_is;
        fetched = λ h. a.0.fetched (fetched_before es (Expired lane p j) p k refl h);
      },
      blocks_off b es sl lane p j p (k + 1) ts xs (λ n h. apart p j n (λ s. absurd (omega (arith, s, h, at)))) a.1,
    )
blocks_on b es sl lane p j k (suc i) (t ∷ ts) (x ∷ xs) e a = (
  block_off b es sl lane p j p k t x (apart p j k (λ s. absurd (omega (arith, s, e)))) a.0,
  blocks_on b es sl lane p j (k + 1) i ts xs (omega (arith, e)) a.1,
)

each_length : (b : RunTold) (es : List Event) (sl : Slack) (p k : ℕ) (ts : List ℕ) (xs : List XorbBlock)
    → EachLedBlock b es sl p k ts xs → length ts ≡ length xs
each_length b es sl p k [] [] a = refl
each_length b es sl p k [] (x ∷ xs) a = absurd a
each_length b es sl p k (t ∷ ts) [] a = absurd a
each_length b es sl p k (t ∷ ts) (x ∷ xs) a = let r = each_length b es sl p (k + 1) ts xs a.1 in omega (arith, r)

pub each_count : (b : RunTold) (es : List Event) (sl : Slack) (p k i : ℕ) (ts : List ℕ) (xs : List XorbBlock)
    → i < length ts → EachLedBlock b es sl p k ts xs → slice_index ts i ≡ count_by (expires p (k + i)) es
each_count b es sl p k i [] [] h a = absurd (omega (arith, h))
each_count b es sl p k i [] (x ∷ xs) h a = absurd a
each_count b es sl p k i (t ∷ ts) [] h a = absurd a
each_count b es sl p k zero (t ∷ ts) (x ∷ xs) h a = let e : k ≡ k + 0 = omega arith in
    a.0.tries_are ∙ ap (λ (n : ℕ). count_by (expires p n) es) e
each_count b es sl p k (suc i) (t ∷ ts) (x ∷ xs) h a = let e : (k + 1) + i ≡ k + suc i = omega arith in
    each_count b es sl p (k + 1) i ts xs (omega (arith, h)) a.1 ∙ ap (λ (n : ℕ). count_by (expires p n) es) e

-- ---- one plan

-- one more plan is stale, at most
abbrev Grows : List ℕ → List ℕ → Type 0
Grows stale to = (q : ℕ) → Contains stale q → Contains to q

ready_off : (g : Setup) (es : List Event) (stale to : List ℕ) (lane p j q k : ℕ) → (p == q && j == k) ≡ false
    → Grows stale to → IsReady g es stale q k → IsReady g (es ++ Expired lane p j ∷ []) to q k
ready_off g es stale to lane p j q k off grows r = record {
  left = subst (λ (c : ℕ). c < g.tries) (sym (count-same (expires q k) es (Expired lane p j) off)) r.left;
  fresh = ⊎_elim (λ (c : Contains stale q). inl (grows q c))
      (λ (f : is_expired es q k ≡ false). inr (expired-push es (Expired lane p j) q k
      (ap (λ (v : Bool). cond v (true ∷ []) []) off) ∙ f)) r.fresh;
}

ready_on : (g : Setup) (es : List Event) (stale to : List ℕ) (lane p j k : ℕ)
    → (j ≡ k → count_by (expires p j) es + 1 < g.tries) → Contains to p → IsReady g es stale p k
    → IsReady g (es ++ Expired lane p j ∷ []) to p k
ready_on g es stale to lane p j k most now r = record { left = ⊎_elim same other (cases_eq j k); fresh = inl now }
  where
    same : j ≡ k → count_by (expires p k) (es ++ Expired lane p j ∷ []) < g.tries
    same e =
        let more = count-more (expires p k) es (Expired lane p j)
        (and_from (p == p) (j == k) (same_number p) (eq-eqb j k e)) in
        let m = most e in
        let z = ap (λ (n : ℕ). count_by (expires p n) es) e in
        omega (arith, more, m, z)

    other : (j ≡ k → ⊥) → count_by (expires p k) (es ++ Expired lane p j ∷ []) < g.tries
    other h =
        let c = count-same (expires p k) es (Expired lane p j) (apart p j k h) in
        let l = r.left in
        omega (arith, c, l)

-- a plan with these counts, where what is said of its blocks holds still
plan_with : (g : Setup) (b : RunTold) (es : List Event) (sl : Slack) (stale to : List ℕ) (lane p j : ℕ)
    (l k : LedPlan) → k ≡ record l { tries = k.tries }
    → EachLedBlock b (es ++ Expired lane p j ∷ []) sl l.number 0 k.tries.items l.block.blocks
    → ((i : ℕ) → i < length l.block.blocks → IsReady g (es ++ Expired lane p j ∷ []) to l.number i)
    → IsLedPlan g b es sl stale l → IsLedPlan g b (es ++ Expired lane p j ∷ []) sl to k
plan_with g b es sl stale to lane p j l k is each ready h =
    let e : Event = Expired lane p j in
    subst (λ (y : LedPlan). IsLedPlan g b (es ++ e ∷ []) sl to y) (sym is) (record {
      plan = h.plan;
      query = h.query;
      accepted = h.accepted;
      said_as = h.said_as;
      terms = h.terms;
      blocks = h.blocks;
      true_plan = h.true_plan;
      table = record {
        file = h.table.file;
        range_is = h.table.range_is;
        number = h.table.number;
        each = h.table.each;
      };
      recorded = quiet_recorded es e (record l { tries = k.tries }) (is_quiet lane p j)
          (record { blocks = h.recorded.blocks; at_range = h.recorded.at_range; tasks = h.recorded.tasks });
      each = each;
      ready = ready;
    })

plan_off : (g : Setup) (b : RunTold) (es : List Event) (sl : Slack) (stale to : List ℕ) (lane p j : ℕ) (l : LedPlan)
    → Grows stale to → (l.number == p) ≡ false → IsLedPlan g b es sl stale l
    → IsLedPlan g b (es ++ Expired lane p j ∷ []) sl to l
plan_off g b es sl stale to lane p j l grows off h =
    let no : (i : ℕ) → (p == l.number && j == i) ≡ false =
    λ i. and_left (p == l.number) (j == i) (turned l.number p off) in
    plan_with g b es sl stale to lane p j l l refl
    (blocks_off b es sl lane p j l.number 0 l.tries.items l.block.blocks (λ i m. no i) h.each)
    (λ i m. ready_off g es stale to lane p j l.number i (no i) grows (h.ready i m)) h

-- a block that is counted once more and spends nothing has tries left after that
plan_left : (g : Setup) (b : RunTold) (es : List Event) (sl : Slack) (stale : List ℕ) (j : ℕ) (l : LedPlan)
    → j < length l.block.blocks → spends_in g.tries j l ≡ false → IsLedPlan g b es sl stale l
    → count_by (expires l.number j) es + 1 < g.tries
plan_left g b es sl stale j l m some h =
    let n = each_length b es sl l.number 0 l.tries.items l.block.blocks h.each in
    let within : j < length l.tries.items = omega (arith, n, m) in
    let z : 0 + j ≡ j = omega arith in
    let count = each_count b es sl l.number 0 j l.tries.items l.block.blocks within h.each
    ∙ ap (λ (k : ℕ). count_by (expires l.number k) es) z in
    let test : nat_le g.tries (slice_index l.tries.items j + 1) ≡ false =
    sym (ap (λ (v : Bool). v && nat_le g.tries (slice_index l.tries.items j + 1))
    (lt-ltb j (length l.tries.items) within)) ∙ some in
    let few : slice_index l.tries.items j + 1 < g.tries = leb-false g.tries (slice_index l.tries.items j + 1) test in
    omega (arith, count, few)

plan_on : (g : Setup) (b : RunTold) (es : List Event) (sl : Slack) (stale to : List ℕ) (lane j : ℕ) (l : LedPlan)
    → Contains to l.number → spends_in g.tries j l ≡ false → IsLedPlan g b es sl stale l
    → IsLedPlan g b (es ++ Expired lane l.number j ∷ []) sl to (one_more j l)
plan_on g b es sl stale to lane j l now some h = by (nat_lt j (length l.tries.items)) refl
  where
    p : ℕ
    p = l.number

    each : EachLedBlock b (es ++ Expired lane p j ∷ []) sl p 0
        (slice_set l.tries.items j (slice_index l.tries.items j + 1)) l.block.blocks
    each = blocks_on b es sl lane p j 0 j l.tries.items l.block.blocks (omega arith) h.each

    most : (i : ℕ) → i < length l.block.blocks → j ≡ i → count_by (expires p j) es + 1 < g.tries
    most i m e = plan_left g b es sl stale j l (omega (arith, m, e)) some h

    ready : (i : ℕ) → i < length l.block.blocks → IsReady g (es ++ Expired lane p j ∷ []) to p i
    ready i m = ready_on g es stale to lane p j i (most i m) now (h.ready i m)

    by : (v : Bool) → nat_lt j (length l.tries.items) ≡ v
        → IsLedPlan g b (es ++ Expired lane p j ∷ []) sl to
        (cond v (record l { tries = with_item l.tries j (slice_index l.tries.items j + 1) }) l)
    by true e = plan_with g b es sl stale to lane p j l
        (record l { tries = with_item l.tries j (slice_index l.tries.items j + 1) }) refl each ready h
    by false e =
        let past = set_past l.tries.items j (slice_index l.tries.items j + 1)
        (ltb-false j (length l.tries.items) e) in
        plan_with g b es sl stale to lane p j l l refl
        (subst (λ (ts : List ℕ). EachLedBlock b (es ++ Expired lane p j ∷ []) sl p 0 ts l.block.blocks) past each)
        ready h

-- ---- all plans

pub as_counted : (j : ℕ) (l : LedPlan) → IsAlike l (one_more j l)
as_counted j l = by (nat_lt j (length l.tries.items))
  where
    by : (v : Bool) → IsAlike l (cond v (record l { tries = with_item l.tries j (slice_index l.tries.items j + 1) })
        l)
    by true = record { number = refl; first = refl; terms = refl }
    by false = record { number = refl; first = refl; terms = refl }

plans_expired : (g : Setup) (b : RunTold) (es : List Event) (sl : Slack) (stale to : List ℕ) (lane p j : ℕ) (l : Led)
    → Grows stale to → Contains to p → spends_one g.tries (p, j) l.plans ≡ false → AreLedPlans g b es sl stale l
    → AreLedPlans g b (es ++ Expired lane p j ∷ []) sl to (record l { plans = counted_one (p, j) l.plans })
plans_expired g b es sl stale to lane p j l grows now some a =
    let e : Event = Expired lane p j in
    let same = alike_changed p (one_more j) l.plans (as_counted j) in
    record {
      each = change_all (IsLedPlan g b es sl stale) (IsLedPlan g b (es ++ e ∷ []) sl to)
          (one_more j) p l.plans a.follow (λ k off h. plan_off g b es sl stale to lane p j k grows off h) on a.each;
      follow = alike_follow l.plans (counted_one (p, j) l.plans) same a.follow;
      numbered = λ h. quiet_numbered es e (counted_one (p, j) l.plans) (is_quiet lane p j)
          (alike_number _ l.plans (counted_one (p, j) l.plans) same (a.numbered h));
      last = alike_terms l.planned l.plans (counted_one (p, j) l.plans) same a.last;
      first = alike_begins l.finished l.planned l.plans (counted_one (p, j) l.plans) same a.first;
    }
  where
    on : (k : LedPlan) → slice_get l.plans (plan_index l.plans p) ≡ Some k → k.number ≡ p
        → IsLedPlan g b es sl stale k → IsLedPlan g b (es ++ Expired lane p j ∷ []) sl to (one_more j k)
    on k at number h =
        let one : ((k.number == p) && spends_in g.tries j k) ≡ false =
        sym (ap (λ (o : Option LedPlan). spends_of g.tries (p, j) o) at) ∙ some in
        let few : spends_in g.tries j k ≡ false = sym
        (ap (λ (v : Bool). v && spends_in g.tries j k) (eq-eqb k.number p number)) ∙ one in
        subst (λ (q : ℕ). IsLedPlan g b (es ++ Expired lane q j ∷ []) sl to (one_more j k)) number
        (plan_on g b es sl stale to lane j k (subst (λ (q : ℕ). Contains to q) (sym number) now) few h)

-- ---- stale plans

last_true : (v : Bool) → last_of true (filter (λ (x : Bool). v) (true ∷ [])) ≡ true
last_true true = refl
last_true false = refl

stale_stays : (es : List Event) (lane p j q : ℕ) → is_stale es q ≡ true
    → is_stale (es ++ Expired lane p j ∷ []) q ≡ true
stale_stays es lane p j q h = stale-push es (Expired lane p j) q
    ∙ ap (λ (v : Bool). last_of v (expiry_in q (Expired lane p j))) h ∙ last_true (p == q)

stale_now : (es : List Event) (lane p j : ℕ) → is_stale (es ++ Expired lane p j ∷ []) p ≡ true
stale_now es lane p j = stale-push es (Expired lane p j) p
    ∙ ap (λ (v : Bool). last_of (is_stale es p) (filter (λ (x : Bool). v) (true ∷ []))) (same_number p)

all_stale : (es : List Event) (lane p j : ℕ) (ps : List ℕ) → AreStale es ps
    → AreStale (es ++ Expired lane p j ∷ []) ps
all_stale es lane p j [] a = tt
all_stale es lane p j (q ∷ ps) a = (stale_stays es lane p j q a.0, a.1, all_stale es lane p j ps a.2)

stale_more : (es : List Event) (p : ℕ) (ps : List ℕ) → is_stale es p ≡ true → list_any (λ q. p == q) ps ≡ false
    → AreStale es ps → AreStale es (ps ++ p ∷ [])
stale_more es p [] now new a = (now, refl, tt)
stale_more es p (q ∷ ps) now new a =
    let parts = or_parts (p == q) (list_any (λ r. p == r) ps) new in
    (a.0, count-same (λ r. r == q) ps p parts.0 ∙ a.1, stale_more es p ps now parts.1 a.2)

stale_grows : (p : ℕ) (ps : List ℕ) → Grows ps (with_stale p ps)
stale_grows p ps q c = by (list_any (λ r. p == r) ps)
  where
    by : (v : Bool) → Contains (cond v ps (ps ++ p ∷ [])) q
    by true = c
    by false = Contains-append_left ps (p ∷ []) q c

stale_has : (p : ℕ) (ps : List ℕ) → Contains (with_stale p ps) p
stale_has p ps = by (list_any (λ r. p == r) ps) refl
  where
    by : (v : Bool) → list_any (λ r. p == r) ps ≡ v → Contains (cond v ps (ps ++ p ∷ [])) p
    by true e = Contains-from_any {eq = λ x y. x == y} (λ x y h. eqb-true x y h) p ps e
    by false e = Contains-push ps p

stale_with : (es : List Event) (lane p j : ℕ) (ps : List ℕ) → AreStale es ps
    → AreStale (es ++ Expired lane p j ∷ []) (with_stale p ps)
stale_with es lane p j ps a = by (list_any (λ r. p == r) ps) refl
  where
    by : (v : Bool) → list_any (λ r. p == r) ps ≡ v
        → AreStale (es ++ Expired lane p j ∷ []) (cond v ps (ps ++ p ∷ []))
    by true e = all_stale es lane p j ps a
    by false e = stale_more (es ++ Expired lane p j ∷ []) p ps (stale_now es lane p j) e (all_stale es lane p j ps a)

-- ---- the leader

-- the counts of blocks after it
under_more : (g : Setup) (es : List Event) (lane p j : ℕ) → count_by (expires p j) es + 1 < g.tries
    → ((q k : ℕ) → count_by (expires q k) es < g.tries) → (q k : ℕ)
    → count_by (expires q k) (es ++ Expired lane p j ∷ []) < g.tries
under_more g es lane p j few a q k = by (p == q && j == k) refl
  where
    by : (v : Bool) → (p == q && j == k) ≡ v → count_by (expires q k) (es ++ Expired lane p j ∷ []) < g.tries
    by false e = let s = count-same (expires q k) es (Expired lane p j) e in let h = a q k in omega (arith, s, h)
    by true e =
        let same = and_parts (p == q) (j == k) e in
        let one = eqb-true p q same.0 in
        let two = eqb-true j k same.1 in
        let more = count-more (expires q k) es (Expired lane p j) e in
        let at = ap (λ (i : ℕ). count_by (expires i j) es) one ∙ ap (λ (i : ℕ). count_by (expires q i) es) two in
        omega (arith, more, at, few)

-- a missing block is of a led plan, so it has tries left where counting it once more spends nothing
pub missing_left : (g : Setup) (b : RunTold) (es : List Event) (sl : Slack) (stale : List ℕ) (p j : ℕ) (l : Led)
    → spends_one g.tries (p, j) l.plans ≡ false → IsMissing es p j → IsLed g b es sl stale l
    → count_by (expires p j) es + 1 < g.tries
missing_left g b es sl stale p j l some m a =
    let c : BlockAt = record { plan = p; block = j } in
    let w = awaited g b es sl stale l a c m in
    let number : w.plan.number ≡ p = w.number in
    let one : ((w.plan.number == p) && spends_in g.tries j w.plan) ≡ false =
    sym (ap (λ (o : Option LedPlan). spends_of g.tries (p, j) o) w.at) ∙ some in
    let few : spends_in g.tries j w.plan ≡ false =
    sym (ap (λ (v : Bool). v && spends_in g.tries j w.plan) (eq-eqb w.plan.number p number)) ∙ one in
    let left = plan_left g b es sl stale j w.plan (slice_get_within w.plan.block.blocks j w.block w.of_plan) few w.led
    in
    let same = ap (λ (n : ℕ). count_by (expires n j) es) number in
    omega (arith, left, same)

-- the block's count is raised, it has tries left, and its plan is stale
pub led_expired : (g : Setup) (b : RunTold) (es : List Event) (sl : Slack) (stale : List ℕ) (lane p j : ℕ) (l : Led)
    → spends_one g.tries (p, j) l.plans ≡ false → IsMissing es p j → IsLed g b es sl stale l
    → IsLed g b (es ++ Expired lane p j ∷ []) sl (with_stale p stale)
    (record l { plans = counted_one (p, j) l.plans })
led_expired g b es sl stale lane p j l some m a =
    let e : Event = Expired lane p j in
    let counted = quiet_counted es e l (is_quiet lane p j) refl refl a.counted in
    record {
      running = quiet_running es e (is_quiet lane p j) a.running;
      some = a.some;
      tries = a.tries;
      stale_are = stale_with es lane p j stale a.stale_are;
      under = under_more g es lane p j (missing_left g b es sl stale p j l some m a) a.under;
      manager = quiet_manager g es e l.manager (is_quiet lane p j) a.manager;
      plans = plans_expired g b es sl stale (with_stale p stale) lane p j l (stale_grows p stale)
          (stale_has p stale) some a.plans;
      counted = record {
        planned_are = counted.planned_are;
        planned_fits = counted.planned_fits;
        admitted_are = counted.admitted_are;
        finished_within = counted.finished_within;
        admitted_within = counted.admitted_within;
        written_are = counted.written_are;
      };
    }

-- ---- a block whose tries are used up

plan_in : (P : LedPlan → Type 0) (ls : List LedPlan) (i : ℕ) (l : LedPlan) → slice_get ls i ≡ Some l → All P ls → P l
plan_in P [] i l h a = absurd (cc)
plan_in P (k ∷ ls) zero l h a = let same : k ≡ l = cc in subst P same (All-head P k ls a)
plan_in P (k ∷ ls) (suc i) l h a = plan_in P ls i l h (All-tail P k ls a)

-- it expired as often as it may be asked for
pub tries_used : (g : Setup) (b : RunTold) (es : List Event) (sl : Slack) (stale : List ℕ) (lane p k : ℕ) (l : Led)
    → spends_one g.tries (p, k) l.plans ≡ true → IsLed g b es sl stale l
    → g.tries ≤ count_by (expires p k) (es ++ Expired lane p k ∷ [])
tries_used g b es sl stale lane p k l some led = by (slice_get l.plans (plan_index l.plans p)) refl
  where
    by : (o : Option LedPlan) → slice_get l.plans (plan_index l.plans p) ≡ o
        → g.tries ≤ count_by (expires p k) (es ++ Expired lane p k ∷ [])
    by None at = absurd (let z : spends_one g.tries (p, k) l.plans ≡ false = ap
        (λ (o : Option LedPlan). spends_of g.tries (p, k) o) at in let y : true ≡ false = sym some ∙ z in cc)
    by (Some x) at =
        let h = plan_in (IsLedPlan g b es sl stale) l.plans (plan_index l.plans p) x at led.plans.each in
        let one : (x.number == p && spends_in g.tries k x) ≡ true =
        sym (ap (λ (o : Option LedPlan). spends_of g.tries (p, k) o) at) ∙ some in
        let here = and_parts (x.number == p) (spends_in g.tries k x) one in
        let number : x.number ≡ p = eqb-true x.number p here.0 in
        let parts = and_parts (nat_lt k (length x.tries.items))
        (nat_le g.tries (slice_index x.tries.items k + 1)) here.1 in
        let within : k < length x.tries.items = ltb-true k (length x.tries.items) parts.0 in
        let most : g.tries ≤ slice_index x.tries.items k + 1 =
        leb-true g.tries (slice_index x.tries.items k + 1) parts.1 in
        let z : 0 + k ≡ k = omega arith in
        let count = each_count b es sl x.number 0 k x.tries.items x.block.blocks within h.each
        ∙ ap (λ (n : ℕ). count_by (expires x.number n) es) z ∙ ap (λ (n : ℕ). count_by (expires n k) es) number in
        let more = count-more (expires p k) es (Expired lane p k)
        (and_from (p == p) (k == k) (eq-eqb p p refl) (eq-eqb k k refl)) in
        omega (arith, count, more, most)
