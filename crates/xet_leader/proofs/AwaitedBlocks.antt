-- What a leader has of a missing block.
use Rattle.std.proofs.Common.{◌≡◌, ℕ, ◌+◌, ◌-◌, ◌<◌, ◌==◌, ◌&&◌, suc, zero, Bool, true, false, List, [], ◌∷◌, length, take, drop, refl, sym, subst, ◌∙◌, ap, arith, ⊎_elim}
use Rattle.std.specs.Prelude.{All, map, option_map, option_to_list, Option, Some, None, slice_get}
use Rattle.std.specs.List.{flat_map, list_any}
use Rattle.std.specs.Option.{is_some}
use Rattle.std.proofs.lemmas.Bool.{and_parts, eqb-true, false≢true, or_cases}
use Rattle.std.proofs.lemmas.List.{append-nil}
use Rattle.std.proofs.lemmas.List.Elements.{All-head, All-tail}
use Rattle.std.proofs.lemmas.List.Folds.{list_any-append}
use Rattle.std.proofs.lemmas.Option.{slice_get-map, slice_get_within}
use Rattle.xet_base.specs.declared.cas_types.FileRange.{FileRange}
use Rattle.xet_base.specs.declared.merklehash.MerkleHash.{MerkleHash}
use Rattle.xet_base.specs.Store.{IsValid, Store}
use Rattle.xet_outside.specs.Plan.{Shape, block_of, plan_of, shape}
use Rattle.xet_outside.specs.Told.{Holds}
use Rattle.xet_blocks.specs.declared.reconstruction_terms.file_term.FileTerm.{FileTerm}
use Rattle.xet_offers.specs.declared.reconstruction_terms.xorb_block.XorbBlock.{XorbBlock}
use Rattle.xet_offers.specs.declared.reconstruction_terms.xorb_block.XorbBlockData.{XorbBlockData}
use Rattle.xet_offers.specs.Blocks.{PlanBlock, block_ranges, blocks_of}
use Rattle.xet_blocks.specs.TermBlocks.{xorb_block}
use Rattle.xet_blocks.specs.Terms.{terms_of}
use Rattle.xet_blocks.proofs.CallerLemmas.{IsHonestTerm, honest_terms}
use Rattle.xet_fetch.specs.CachedBlocks.{passes_cached}
use Rattle.xet_fetch.proofs.CallerLemmas.{honest_entries_pass}
use Rattle.xet_events.specs.declared.event.Event.{Event}
use Rattle.xet_events.specs.declared.event.PlannedBlock.{PlannedBlock}
use Rattle.xet_events.specs.Allowed.{IsMissing}
use Rattle.xet_events.specs.Events.{Task, is_kept}
use Rattle.xet_history.specs.TrueHistory.{planned_term}
use Rattle.xet_ties.specs.History.{block_at}
use Rattle.xet_ties.specs.Saids.{has_bytes, planned_of}
use Rattle.xet_ties.specs.Setup.{IsOver, RunTold, Setup}
use Rattle.xet_ties.specs.Ties.{Slack}
use Rattle.xet_ties.specs.Windows.{is_wanted}
use Rattle.xet_ties.proofs.CallerLemmas.{wanted_is}
use Rattle.xet_leader.specs.ByNumber.{plan_index}
use Rattle.xet_leader.specs.declared.leader.LedPlan.{LedPlan}
use Rattle.xet_leader.specs.declared.missing_blocks.BlockAt.{BlockAt}
use Rattle.xet_leader.specs.FetchLists.{Each}
use Rattle.xet_leader.specs.Lacking.{first_of}
use Rattle.xet_leader.specs.Led.{FollowOn, IsLed, IsLedPlan, Led, bare}
use Rattle.xet_leader.specs.Looks.{CanRequest}
use Rattle.xet_leader.proofs.FetchFacts.{is_at, kept_is, none_within}
use Rattle.xet_leader.proofs.OpenTerms.{open_is, tasks_from, tasks_open}
use Rattle.xet_leader.proofs.PlanFacts.{block_is, each_drop, each_take, terms_within}

-- ---- plans by their numbers

follow_at : (k : LedPlan) (ls : List LedPlan) (i : ℕ) (l : LedPlan) → FollowOn (k ∷ ls)
    → slice_get (k ∷ ls) i ≡ Some l → l.number ≡ k.number + i
follow_at k ls zero l f h = let same : k ≡ l = cc in let e = ap (λ (m : LedPlan). m.number) same in omega (arith, e)
follow_at k [] (suc i) l f h = absurd (cc)
follow_at k (m ∷ ms) (suc i) l f h =
    let r = follow_at m ms i l f.2 h in
    let e : m.number ≡ k.number + 1 = f.0 in
    omega (arith, r, e)

pub index_is : (ls : List LedPlan) (i : ℕ) (l : LedPlan) → FollowOn ls → slice_get ls i ≡ Some l
    → plan_index ls l.number ≡ i
index_is [] i l f h = absurd (cc)
index_is (k ∷ ls) i l f h = let r = follow_at k ls i l f h in omega (arith, r)

-- ---- a plan with a term

-- a plan with a term of this block, of which this holds
pub record SomePlan (Q : LedPlan → FileTerm → Type 0) (ls : List LedPlan) (p k : ℕ) : Type 0 where
  pub place : ℕ
  pub plan : LedPlan
  pub at : slice_get ls place ≡ Some plan
  pub number : plan.number ≡ p
  pub term : FileTerm
  pub of_term : term.xorb_block ≡ k
  pub has : Q plan term

some_term : (Q : LedPlan → FileTerm → Type 0) (l : LedPlan) (p k : ℕ) (ts : List FileTerm) → Each (Q l) ts
    → list_any (is_wanted p k) (tasks_from l ts) ≡ true
    → (l.number ≡ p) × ((t : FileTerm) × (t.xorb_block ≡ k) × Q l t)
some_term Q l p k [] a h = absurd (false≢true h)
some_term Q l p k (t ∷ ts) a h =
    ⊎_elim
    (λ (e : is_wanted p k (record { plan = l.number; term = planned_term t; blocks = map planned_of l.block.blocks })
    ≡ true).
    let w = and_parts (has_bytes (record {
      plan = l.number;
      term = planned_term t;
      blocks = map planned_of l.block.blocks;
    })) (l.number == p && t.xorb_block == k) e in
    let n = and_parts (l.number == p) (t.xorb_block == k) w.1 in
    (eqb-true l.number p n.0, (t, eqb-true t.xorb_block k n.1, a.0)))
    (λ (e : list_any (is_wanted p k) (tasks_from l ts) ≡ true). some_term Q l p k ts a.1 e)
    (or_cases _ (list_any (is_wanted p k) (tasks_from l ts)) h)

pub some_plan : (Q : LedPlan → FileTerm → Type 0) (p k s c : ℕ) (ls : List LedPlan)
    → Each (λ (l : LedPlan). Each (Q l) l.block.terms) ls → list_any (is_wanted p k) (tasks_open s c ls) ≡ true
    → SomePlan Q ls p k
some_plan Q p k s c [] a h = absurd (false≢true h)
some_plan Q p k s c (l ∷ ls) a h =
    let ts = take c (drop s l.block.terms) in
    let n = length l.block.terms in
    let rest = tasks_open (s - n) (c - (n - s)) ls in
    ⊎_elim
    (λ (e : list_any (is_wanted p k) (tasks_from l ts) ≡ true).
    let r = some_term Q l p k ts (each_take (Q l) c (drop s l.block.terms) (each_drop (Q l) s l.block.terms a.0)) e in
    let z : SomePlan Q (l ∷ ls) p k = record {
      place = 0;
      plan = l;
      at = refl;
      number = r.0;
      term = r.1.0;
      of_term = r.1.1;
      has = r.1.2;
    } in z)
    (λ (e : list_any (is_wanted p k) rest ≡ true).
    let r = some_plan Q p k (s - n) (c - (n - s)) ls a.1 e in
    let z : SomePlan Q (l ∷ ls) p k = record {
      place = suc r.place;
      plan = r.plan;
      at = r.at;
      number = r.number;
      term = r.term;
      of_term = r.of_term;
      has = r.has;
    } in z)
    (or_cases (list_any (is_wanted p k) (tasks_from l ts)) (list_any (is_wanted p k) rest)
    (sym (list_any-append (is_wanted p k) (tasks_from l ts) rest) ∙ h))

-- ---- what a leader knows of a term

-- its plan, and its block; over one valid store this has the block's chunks
pub record TermOf (g : Setup) (b : RunTold) (es : List Event) (sl : Slack) (stale : List ℕ) (l : LedPlan)
    (t : FileTerm) : Type 0 where
  pub led : IsLedPlan g b es sl stale l
  pub block : XorbBlock
  pub of_plan : slice_get l.block.blocks t.xorb_block ≡ Some block
  pub holds : (s : Store) → IsOver s b.clients → Holds s block.xorb_hash block.chunk_ranges

each_of_all : {I A : Type 0} (P : I → A → Type 0) (xs : List A) → ((i : I) → All (P i) xs)
    → Each (λ x. (i : I) → P i x) xs
each_of_all P [] a = tt
each_of_all P (x ∷ xs) a = (λ i. All-head (P i) x xs (a i), each_of_all P xs (λ i. All-tail (P i) x xs (a i)))

both : {A : Type 0} (P Q R : A → Type 0) (xs : List A) → ((x : A) → P x → Q x → R x) → Each P xs → Each Q xs
    → Each R xs
both P Q R [] f a b = tt
both P Q R (x ∷ xs) f a b = (f x a.0 b.0, both P Q R xs f a.1 b.1)

-- the stores that connections tell
abbrev Told : RunTold → Type 0
Told b = (s : Store) × IsOver s b.clients

same_some : (c d : PlanBlock) → Some c ≡ Some d → c ≡ d
same_some c d h = cc

some_at : (xs : List XorbBlock) (k : ℕ) → k < length xs → (x : XorbBlock) × (slice_get xs k ≡ Some x)
some_at xs k w = go (slice_get xs k) refl
  where
    go : (o : Option XorbBlock) → slice_get xs k ≡ o → (x : XorbBlock) × (slice_get xs k ≡ Some x)
    go None e = absurd (none_within xs k w e)
    go (Some x) e = (x, e)

module _ (g : Setup) (b : RunTold) (es : List Event) (sl : Slack) (stale : List ℕ) (l : LedPlan)
    (a : IsLedPlan g b es sl stale l) where
  abbrev Honest : Told b → FileTerm → Type 0
  Honest o t = IsHonestTerm o.0 (shape a.plan) g.multirange t

  all_honest : (o : Told b) → All (Honest o) l.block.terms
  all_honest o =
      let same = a.true_plan o.0 o.1 in
      subst (All (Honest o)) (sym a.terms)
      (subst (λ (p : Shape). All (IsHonestTerm o.0 p g.multirange) (terms_of p a.query g.multirange)) (sym same)
      (honest_terms o.0 o.1.valid g.file a.query g.multirange))

  term_of : (t : FileTerm) → t.xorb_block < length l.block.blocks → ((o : Told b) → Honest o t)
      → TermOf g b es sl stale l t
  term_of t w h =
      let x = some_at l.block.blocks t.xorb_block w in
      let r = block_is g b es sl stale l a t.xorb_block x.0 x.1 in
      record {
        led = a;
        block = x.0;
        of_plan = x.1;
        holds = λ s o.
            let z = h (s, o) in
            let same : r.0 ≡ z.block = same_some r.0 z.block (sym r.1 ∙ z.listed) in
            let H : XorbBlock → Type 0 = λ y. Holds s y.xorb_hash y.chunk_ranges in
            subst H (sym r.2) (subst (λ (c : PlanBlock). Holds s c.xorb (block_ranges c)) (sym same) z.holds);
      }

  plan_terms : Each (TermOf g b es sl stale l) l.block.terms
  plan_terms = both (λ (t : FileTerm). t.xorb_block < length l.block.blocks) (λ t. (o : Told b) → Honest o t)
      (TermOf g b es sl stale l) l.block.terms term_of (terms_within g b es sl stale l a)
      (each_of_all Honest l.block.terms all_honest)

pub all_terms : (g : Setup) (b : RunTold) (es : List Event) (sl : Slack) (stale : List ℕ) (ls : List LedPlan)
    → All (IsLedPlan g b es sl stale) ls → Each (λ (l : LedPlan). Each (TermOf g b es sl stale l) l.block.terms) ls
all_terms g b es sl stale [] a = tt
all_terms g b es sl stale (l ∷ ls) a = (
  plan_terms g b es sl stale l (All-head (IsLedPlan g b es sl stale) l ls a),
  all_terms g b es sl stale ls (All-tail (IsLedPlan g b es sl stale) l ls a),
)

-- ---- what it has of a missing block

pub record IsAwaited (g : Setup) (b : RunTold) (es : List Event) (sl : Slack) (stale : List ℕ) (l : Led) (c : BlockAt)
    : Type 0 where
  pub plan : LedPlan
  pub at : slice_get l.plans (plan_index l.plans c.plan) ≡ Some plan
  pub number : plan.number ≡ c.plan
  pub led : IsLedPlan g b es sl stale plan
  pub block : XorbBlock
  pub of_plan : slice_get plan.block.blocks c.block ≡ Some block
  pub index : block.xorb_block_index ≡ c.block
  pub none : block.kept ≡ None
  pub planned : block_at es c.plan c.block ≡ planned_of block ∷ []
  pub holds : (s : Store) → IsOver s b.clients → Holds s block.xorb_hash block.chunk_ranges
  pub passes : (s : Store) → IsOver s b.clients → passes_cached block
      (block_of s block.xorb_hash block.chunk_ranges) ≡ true

none_kept : (o : Option XorbBlockData) → is_some o ≡ false → o ≡ None
none_kept None h = refl
none_kept (Some d) h = absurd (false≢true (sym h))

passes_of : (s : Store) → IsValid s → (f : MerkleHash) (q : FileRange) (multi : Bool) (k : ℕ) (p : Shape)
    → p ≡ plan_of s f q → (c : PlanBlock) → slice_get (blocks_of p multi) k ≡ Some c → (x : XorbBlock)
    → bare x ≡ xorb_block p multi (k, c)
    → passes_cached x (block_of s x.xorb_hash x.chunk_ranges) ≡ true
passes_of s v f q multi k p same c at x is =
    let P : XorbBlock → Type 0 = λ y. passes_cached y (block_of s y.xorb_hash y.chunk_ranges) ≡ true in
    let there : slice_get (blocks_of (plan_of s f q) multi) k ≡ Some c =
    subst (λ (r : Shape). slice_get (blocks_of r multi) k ≡ Some c) same at in
    let honest : P (xorb_block (plan_of s f q) multi (k, c)) = honest_entries_pass s v f q multi k c there in
    subst P (sym is) (subst (λ (r : Shape). P (xorb_block r multi (k, c))) (sym same) honest)

index_of : (p : Shape) (multi : Bool) (k : ℕ) (c : PlanBlock) (x : XorbBlock) → bare x ≡ xorb_block p multi (k, c)
    → x.xorb_block_index ≡ k
index_of p multi k c x h = ap (λ (y : XorbBlock). y.xorb_block_index) h

pub awaited : (g : Setup) (b : RunTold) (es : List Event) (sl : Slack) (stale : List ℕ) (l : Led)
    → IsLed g b es sl stale l → (c : BlockAt) → IsMissing es c.plan c.block → IsAwaited g b es sl stale l c
awaited g b es sl stale l a c m =
    let s = l.finished - first_of l.plans in
    let n = l.admitted - l.finished in
    let wanted : list_any (is_wanted c.plan c.block) (tasks_open s n l.plans) ≡ true =
    subst (λ (ts : List Task). list_any (is_wanted c.plan c.block) ts ≡ true) (open_is g b es sl stale l a)
    (sym (wanted_is es l.finished c.plan c.block (is_at g b es sl stale l a)) ∙ m.wanted) in
    let r = some_plan (TermOf g b es sl stale) c.plan c.block s n l.plans
    (all_terms g b es sl stale l.plans a.plans.each) wanted in
    let t = r.has in
    let led = t.led in
    let of_plan : slice_get r.plan.block.blocks c.block ≡ Some t.block =
    subst (λ (k : ℕ). slice_get r.plan.block.blocks k ≡ Some t.block) r.of_term t.of_plan in
    let place : plan_index l.plans c.plan ≡ r.place =
    ap (plan_index l.plans) (sym r.number) ∙ index_is l.plans r.place r.plan a.plans.follow r.at in
    let own = block_is g b es sl stale r.plan led c.block t.block of_plan in
    let absent : is_some t.block.kept ≡ false = kept_is g b es sl stale r.plan led c.block t.block of_plan
    ∙ ap (λ (p : ℕ). is_kept es p c.block) r.number ∙ m.absent in
    let blocks = led.recorded.blocks in
    let of : Option (List PlannedBlock) → List PlannedBlock =
    λ o. flat_map (λ bs. option_to_list (slice_get bs c.block)) (option_to_list o) in
    let listed : slice_get (map planned_of r.plan.block.blocks) c.block ≡ Some (planned_of t.block) =
    slice_get-map planned_of r.plan.block.blocks c.block ∙ ap (option_map planned_of) of_plan in
    record {
      plan = r.plan;
      at = ap (slice_get l.plans) place ∙ r.at;
      number = r.number;
      led = led;
      block = t.block;
      of_plan = of_plan;
      index = index_of (shape led.plan) g.multirange c.block own.0 t.block own.2;
      none = none_kept t.block.kept absent;
      planned = ap (λ (p : ℕ). block_at es p c.block) (sym r.number) ∙ ap of blocks
          ∙ append-nil (option_to_list (slice_get (map planned_of r.plan.block.blocks) c.block))
          ∙ ap option_to_list listed;
      holds = t.holds;
      passes = λ s o. passes_of s o.valid g.file led.query g.multirange c.block (shape led.plan)
          (led.true_plan s o) own.0 own.1 t.block own.2;
    }

-- so it can be requested
pub awaited_request : (g : Setup) (b : RunTold) (es : List Event) (sl : Slack) (stale : List ℕ) (l : Led)
    (c : BlockAt) → IsAwaited g b es sl stale l c → CanRequest l.plans c
awaited_request g b es sl stale l c w =
    let there : c.block < length w.plan.block.blocks =
    slice_get_within w.plan.block.blocks c.block w.block w.of_plan in
    let urls : length w.plan.block.urls.retrieval_urls ≡ length w.plan.block.blocks = w.led.table.each in
    record {
      plan = w.plan;
      at = w.at;
      block = w.block;
      of_plan = w.of_plan;
      index = w.index;
      url = omega (arith, there, urls);
    }
