-- What a leader's terms lack is what is to be fetched.
use Rattle.std.proofs.Common.{◌≡◌, ℕ, ◌+◌, ◌-◌, ◌<◌, ◌==◌, ◌||◌, suc, zero, Bool, true, false, cond, List, [], ◌∷◌, ◌++◌, length, take, drop, refl, sym, subst, ◌∙◌, ap, arith, inl, inr, ⊎_elim}
use Rattle.std.specs.Prelude.{All, map, ◌⊎◌, is_none, Option, Some, None, slice_get}
use Rattle.std.specs.List.{list_any}
use Rattle.std.specs.Option.{is_some}
use Rattle.std.proofs.lemmas.Bool.{and_from, and_parts, eq-eqb, eqb-true, false≢true, or_cases, or_from, or_left, or_parts, or_right}
use Rattle.std.proofs.lemmas.List.Elements.{All-head, All-tail}
use Rattle.std.proofs.lemmas.List.Folds.{list_any-append}
use Rattle.xet_blocks.specs.declared.reconstruction_terms.file_term.FileTerm.{FileTerm}
use Rattle.xet_offers.specs.declared.reconstruction_terms.xorb_block.XorbBlock.{XorbBlock}
use Rattle.xet_offers.specs.declared.reconstruction_terms.xorb_block.XorbBlockData.{XorbBlockData}
use Rattle.xet_events.specs.declared.event.Event.{Event}
use Rattle.xet_events.specs.Allowed.{IsMissing}
use Rattle.xet_events.specs.Events.{Task, is_kept, needs}
use Rattle.xet_events.proofs.CallerLemmas.{any-push}
use Rattle.xet_history.specs.TrueHistory.{planned_term}
use Rattle.xet_ties.specs.Saids.{planned_of}
use Rattle.xet_ties.specs.Setup.{RunTold, Setup}
use Rattle.xet_ties.specs.Ties.{Slack}
use Rattle.xet_ties.specs.Windows.{IsAt, is_wanted, open_terms}
use Rattle.xet_ties.proofs.CallerLemmas.{wanted_is}
use Rattle.xet_leader.specs.declared.leader.LedPlan.{LedPlan}
use Rattle.xet_leader.specs.declared.missing_blocks.BlockAt.{BlockAt}
use Rattle.xet_leader.specs.FetchLists.{AreApart, Each, IsFetchList, IsKeptOrListed, place_of}
use Rattle.xet_leader.specs.Lacking.{first_of, is_bare, lacked, lacked_by, lacked_in, lacks, lists, missing_of, same_place, with_place, with_places}
use Rattle.xet_leader.specs.Led.{IsLed, IsLedPlan, Led}
use Rattle.xet_leader.proofs.OpenTerms.{open_is, tasks_from, tasks_open}
use Rattle.xet_leader.proofs.PlanFacts.{each_append, each_drop, each_take, each_weaker, led_block, terms_within}

-- ---- places

pub same_is : (c d : BlockAt) → same_place c d ≡ true → c ≡ d
same_is c d h =
    let p = and_parts (c.plan == d.plan) (c.block == d.block) h in
    let x = eqb-true c.plan d.plan p.0 in
    let y = eqb-true c.block d.block p.1 in
    λ i. record { plan = x i; block = y i }

pub same_own : (c : BlockAt) → same_place c c ≡ true
same_own c = and_from (c.plan == c.plan) (c.block == c.block) (eq-eqb c.plan c.plan refl)
    (eq-eqb c.block c.block refl)

pub same_back : (c d : BlockAt) → same_place c d ≡ false → same_place d c ≡ false
same_back c d h = go (same_place d c) refl
  where
    go : (v : Bool) → same_place d c ≡ v → same_place d c ≡ false
    go false e = e
    go true e = absurd (false≢true (sym h ∙ ap (λ (x : BlockAt). same_place c x) (same_is d c e) ∙ same_own c))

pub lists_push : (cs : List BlockAt) (d c : BlockAt) → lists (cs ++ d ∷ []) c ≡ (lists cs c || same_place d c)
lists_push cs d c = any-push (λ x. same_place x c) cs d

pub apart_push : (cs : List BlockAt) (d : BlockAt) → AreApart cs → lists cs d ≡ false → AreApart (cs ++ d ∷ [])
apart_push [] d a h = (refl, tt)
apart_push (c ∷ cs) d a h =
    let p = or_parts (same_place c d) (lists cs d) h in
    (lists_push cs d c ∙ or_from (lists cs c) (same_place d c) a.0 (same_back c d p.0), apart_push cs d a.1 p.1)

-- ---- one more place

with_listed : (cs : List BlockAt) (d c : BlockAt) → lists cs c ≡ true → lists (with_place cs d) c ≡ true
with_listed cs d c h = go (lists cs d) refl
  where
    go : (v : Bool) → lists cs d ≡ v → lists (with_place cs d) c ≡ true
    go true e = ap (λ (v : Bool). lists (cond v cs (cs ++ d ∷ [])) c) e ∙ h
    go false e = ap (λ (v : Bool). lists (cond v cs (cs ++ d ∷ [])) c) e ∙ lists_push cs d c
        ∙ or_left (lists cs c) (same_place d c) h

with_here : (cs : List BlockAt) (d : BlockAt) → lists (with_place cs d) d ≡ true
with_here cs d = go (lists cs d) refl
  where
    go : (v : Bool) → lists cs d ≡ v → lists (with_place cs d) d ≡ true
    go true e = ap (λ (v : Bool). lists (cond v cs (cs ++ d ∷ [])) d) e ∙ e
    go false e = ap (λ (v : Bool). lists (cond v cs (cs ++ d ∷ [])) d) e ∙ lists_push cs d d
        ∙ or_right (lists cs d) (same_place d d) (same_own d)

with_apart : (cs : List BlockAt) (d : BlockAt) → AreApart cs → AreApart (with_place cs d)
with_apart cs d a = go (lists cs d) refl
  where
    go : (v : Bool) → lists cs d ≡ v → AreApart (with_place cs d)
    go true e = subst (λ (v : Bool). AreApart (cond v cs (cs ++ d ∷ []))) (sym e) a
    go false e = subst (λ (v : Bool). AreApart (cond v cs (cs ++ d ∷ []))) (sym e) (apart_push cs d a e)

with_each : (P : BlockAt → Type 0) (cs : List BlockAt) (d : BlockAt) → Each P cs → P d → Each P (with_place cs d)
with_each P cs d a h = go (lists cs d) refl
  where
    go : (v : Bool) → lists cs d ≡ v → Each P (with_place cs d)
    go true e = subst (λ (v : Bool). Each P (cond v cs (cs ++ d ∷ []))) (sym e) a
    go false e = subst (λ (v : Bool). Each P (cond v cs (cs ++ d ∷ []))) (sym e) (each_append P cs (d ∷ []) a (h, tt))

-- ---- more places

all_listed : (cs ds : List BlockAt) (c : BlockAt) → lists cs c ≡ true → lists (with_places cs ds) c ≡ true
all_listed cs [] c h = h
all_listed cs (d ∷ ds) c h = all_listed (with_place cs d) ds c (with_listed cs d c h)

all_in : (cs ds : List BlockAt) (c : BlockAt) → lists ds c ≡ true → lists (with_places cs ds) c ≡ true
all_in cs [] c h = absurd (false≢true h)
all_in cs (d ∷ ds) c h =
    ⊎_elim
    (λ (e : same_place d c ≡ true). all_listed (with_place cs d) ds c
    (ap (λ (x : BlockAt). lists (with_place cs d) x) (sym (same_is d c e)) ∙ with_here cs d))
    (λ (e : lists ds c ≡ true). all_in (with_place cs d) ds c e)
    (or_cases (same_place d c) (lists ds c) h)

all_apart : (cs ds : List BlockAt) → AreApart cs → AreApart (with_places cs ds)
all_apart cs [] a = a
all_apart cs (d ∷ ds) a = all_apart (with_place cs d) ds (with_apart cs d a)

all_each : (P : BlockAt → Type 0) (cs ds : List BlockAt) → Each P cs → Each P ds → Each P (with_places cs ds)
all_each P cs [] a h = a
all_each P cs (d ∷ ds) a h = all_each P (with_place cs d) ds (with_each P cs d a h.0) h.1

-- ---- what terms lack

-- a term of these has bytes and this block, which isn't kept
abbrev IsLacked : List Event → List Task → BlockAt → Type 0
IsLacked es ts c = (list_any (is_wanted c.plan c.block) ts ≡ true) × (is_kept es c.plan c.block ≡ false)

lacked_front : (es : List Event) (ts us : List Task) (c : BlockAt) → IsLacked es ts c → IsLacked es (ts ++ us) c
lacked_front es ts us c h = (
  list_any-append (is_wanted c.plan c.block) ts us
      ∙ or_left (list_any (is_wanted c.plan c.block) ts) (list_any (is_wanted c.plan c.block) us) h.0,
  h.1,
)

lacked_back : (es : List Event) (ts us : List Task) (c : BlockAt) → IsLacked es us c → IsLacked es (ts ++ us) c
lacked_back es ts us c h = (
  list_any-append (is_wanted c.plan c.block) ts us
      ∙ or_right (list_any (is_wanted c.plan c.block) ts) (list_any (is_wanted c.plan c.block) us) h.0,
  h.1,
)

kept_front : (es : List Event) (cs ds : List BlockAt) (t : Task) → IsKeptOrListed es cs t
    → IsKeptOrListed es (cs ++ ds) t
kept_front es cs ds t h e =
    ⊎_elim
    (λ (k : is_kept es t.plan t.term.block ≡ true). inl k)
    (λ (k : lists cs (place_of t) ≡ true). inr (list_any-append (λ x. same_place x (place_of t)) cs ds
    ∙ or_left (lists cs (place_of t)) (lists ds (place_of t)) k))
    (h e)

kept_back : (es : List Event) (cs ds : List BlockAt) (t : Task) → IsKeptOrListed es ds t
    → IsKeptOrListed es (cs ++ ds) t
kept_back es cs ds t h e =
    ⊎_elim
    (λ (k : is_kept es t.plan t.term.block ≡ true). inl k)
    (λ (k : lists ds (place_of t) ≡ true). inr (list_any-append (λ x. same_place x (place_of t)) cs ds
    ∙ or_right (lists cs (place_of t)) (lists ds (place_of t)) k))
    (h e)

some_none : (o : Option XorbBlockData) → is_none o ≡ true → is_some o ≡ false
some_none None h = refl
some_none (Some d) h = absurd (false≢true h)

bare_some : (o : Option XorbBlock) → is_bare o ≡ true → (x : XorbBlock) × (o ≡ Some x) × (is_some x.kept ≡ false)
bare_some None h = absurd (false≢true h)
bare_some (Some x) h = (x, refl, some_none x.kept h)

pub none_within : (xs : List XorbBlock) (k : ℕ) → k < length xs → slice_get xs k ≡ None → ⊥
none_within [] k w h = omega arith
none_within (x ∷ xs) zero w h = cc
none_within (x ∷ xs) (suc k) w h = none_within xs k (omega arith) h

module _ (g : Setup) (b : RunTold) (es : List Event) (sl : Slack) (stale : List ℕ) (l : LedPlan)
    (a : IsLedPlan g b es sl stale l) where
  -- the block of this number is kept where the history has it so
  pub kept_is : (k : ℕ) (x : XorbBlock) → slice_get l.block.blocks k ≡ Some x → is_some x.kept ≡ is_kept es l.number k
  kept_is k x h =
      let r = led_block b es sl l.number 0 k l.tries.items l.block.blocks x h a.each in
      r.1.kept ∙ ap (λ (n : ℕ). is_kept es l.number n) (let z : 0 + k ≡ k = omega arith in z)

  term_lacked : (t : FileTerm) → Each (IsLacked es (tasks_from l (t ∷ []))) (lacked_in l t)
  term_lacked t = go (lacks l t) refl
    where
      here : lacks l t ≡ true → IsLacked es (tasks_from l (t ∷ [])) (record { plan = l.number; block = t.xorb_block })
      here e =
          let p = and_parts _ (is_bare (slice_get l.block.blocks t.xorb_block)) e in
          let x = bare_some (slice_get l.block.blocks t.xorb_block) p.1 in
          let mine : needs l.number t.xorb_block (record {
            plan = l.number;
            term = planned_term t;
            blocks = map planned_of l.block.blocks;
          }) ≡ true = and_from
          (l.number == l.number) (t.xorb_block == t.xorb_block) (eq-eqb l.number l.number refl)
          (eq-eqb t.xorb_block t.xorb_block refl) in
          (or_left _ false (and_from _ _ p.0 mine), sym (kept_is t.xorb_block x.0 x.1) ∙ x.2)

      go : (v : Bool) → lacks l t ≡ v → Each (IsLacked es (tasks_from l (t ∷ []))) (lacked_in l t)
      go false e = subst (λ (v : Bool). Each (IsLacked es (tasks_from l (t ∷ [])))
          (cond v (record { plan = l.number; block = t.xorb_block } ∷ []) [])) (sym e) tt
      go true e = subst (λ (v : Bool). Each (IsLacked es (tasks_from l (t ∷ [])))
          (cond v (record { plan = l.number; block = t.xorb_block } ∷ []) [])) (sym e) (here e, tt)

  plan_lacked : (ts : List FileTerm) → Each (IsLacked es (tasks_from l ts)) (lacked_by l ts)
  plan_lacked [] = tt
  plan_lacked (t ∷ ts) =
      let all = tasks_from l (t ∷ ts) in
      each_append (IsLacked es all) (lacked_in l t) (lacked_by l ts)
      (each_weaker (IsLacked es (tasks_from l (t ∷ []))) (IsLacked es all) (lacked_in l t)
      (λ c h. lacked_front es (tasks_from l (t ∷ [])) (tasks_from l ts) c h) (term_lacked t))
      (each_weaker (IsLacked es (tasks_from l ts)) (IsLacked es all) (lacked_by l ts)
      (λ c h. lacked_back es (tasks_from l (t ∷ [])) (tasks_from l ts) c h) (plan_lacked ts))

  term_kept : (t : FileTerm) → t.xorb_block < length l.block.blocks
      → IsKeptOrListed es (lacked_in l t) (record {
        plan = l.number;
        term = planned_term t;
        blocks = map planned_of l.block.blocks;
      })
  term_kept t within some = go (slice_get l.block.blocks t.xorb_block) refl
    where
      place : BlockAt
      place = record { plan = l.number; block = t.xorb_block }

      by : (x : XorbBlock) → slice_get l.block.blocks t.xorb_block ≡ Some x → (o : Option XorbBlockData) → x.kept ≡ o
          → (is_kept es l.number t.xorb_block ≡ true) ⊎ (lists (lacked_in l t) place ≡ true)
      by x e (Some d) k = inl (sym (kept_is t.xorb_block x e) ∙ ap is_some k)
      by x e None k =
          let bare : is_bare (slice_get l.block.blocks t.xorb_block) ≡ true = ap is_bare e ∙ ap is_none k in
          let yes : lacks l t ≡ true = and_from _ (is_bare (slice_get l.block.blocks t.xorb_block)) some bare in
          inr (ap (λ (v : Bool). lists (cond v (place ∷ []) []) place) yes
          ∙ or_left (same_place place place) false (same_own place))

      go : (o : Option XorbBlock) → slice_get l.block.blocks t.xorb_block ≡ o
          → (is_kept es l.number t.xorb_block ≡ true) ⊎ (lists (lacked_in l t) place ≡ true)
      go (Some x) e = by x e x.kept refl
      go None e = absurd (none_within l.block.blocks t.xorb_block within e)

  plan_kept : (ts : List FileTerm) → Each (λ (t : FileTerm). t.xorb_block < length l.block.blocks) ts
      → Each (IsKeptOrListed es (lacked_by l ts)) (tasks_from l ts)
  plan_kept [] w = tt
  plan_kept (t ∷ ts) w = (
    kept_front es (lacked_in l t) (lacked_by l ts)
        (record { plan = l.number; term = planned_term t; blocks = map planned_of l.block.blocks }) (term_kept t w.0),
    each_weaker (IsKeptOrListed es (lacked_by l ts)) (IsKeptOrListed es (lacked_by l (t ∷ ts))) (tasks_from l ts)
        (λ u h. kept_back es (lacked_in l t) (lacked_by l ts) u h) (plan_kept ts w.1),
  )

-- ---- what plans lack

plans_lacked : (g : Setup) (b : RunTold) (es : List Event) (sl : Slack) (stale : List ℕ) (s c : ℕ) (ls : List LedPlan)
    → All (IsLedPlan g b es sl stale) ls → Each (IsLacked es (tasks_open s c ls)) (lacked s c ls)
plans_lacked g b es sl stale s c [] a = tt
plans_lacked g b es sl stale s c (l ∷ ls) a =
    let ts = take c (drop s l.block.terms) in
    let n = length l.block.terms in
    let rest = tasks_open (s - n) (c - (n - s)) ls in
    let more = lacked (s - n) (c - (n - s)) ls in
    each_append (IsLacked es (tasks_from l ts ++ rest)) (lacked_by l ts) more
    (each_weaker (IsLacked es (tasks_from l ts)) (IsLacked es (tasks_from l ts ++ rest)) (lacked_by l ts)
    (λ c h. lacked_front es (tasks_from l ts) rest c h)
    (plan_lacked g b es sl stale l (All-head (IsLedPlan g b es sl stale) l ls a) ts))
    (each_weaker (IsLacked es rest) (IsLacked es (tasks_from l ts ++ rest)) more
    (λ c h. lacked_back es (tasks_from l ts) rest c h)
    (plans_lacked g b es sl stale (s - n) (c - (n - s)) ls (All-tail (IsLedPlan g b es sl stale) l ls a)))

plans_kept : (g : Setup) (b : RunTold) (es : List Event) (sl : Slack) (stale : List ℕ) (s c : ℕ) (ls : List LedPlan)
    → All (IsLedPlan g b es sl stale) ls → Each (IsKeptOrListed es (lacked s c ls)) (tasks_open s c ls)
plans_kept g b es sl stale s c [] a = tt
plans_kept g b es sl stale s c (l ∷ ls) a =
    let ts = take c (drop s l.block.terms) in
    let n = length l.block.terms in
    let rest = tasks_open (s - n) (c - (n - s)) ls in
    let more = lacked (s - n) (c - (n - s)) ls in
    let first = All-head (IsLedPlan g b es sl stale) l ls a in
    let within = each_take (λ (t : FileTerm). t.xorb_block < length l.block.blocks) c (drop s l.block.terms)
    (each_drop (λ (t : FileTerm). t.xorb_block < length l.block.blocks) s l.block.terms
    (terms_within g b es sl stale l first)) in
    each_append (IsKeptOrListed es (lacked_by l ts ++ more)) (tasks_from l ts) rest
    (each_weaker (IsKeptOrListed es (lacked_by l ts)) (IsKeptOrListed es (lacked_by l ts ++ more)) (tasks_from l ts)
    (λ t h. kept_front es (lacked_by l ts) more t h) (plan_kept g b es sl stale l first ts within))
    (each_weaker (IsKeptOrListed es more) (IsKeptOrListed es (lacked_by l ts ++ more)) rest
    (λ t h. kept_back es (lacked_by l ts) more t h)
    (plans_kept g b es sl stale (s - n) (c - (n - s)) ls (All-tail (IsLedPlan g b es sl stale) l ls a)))

-- where the first terms are written, by the leader's count
pub is_at : (g : Setup) (b : RunTold) (es : List Event) (sl : Slack) (stale : List ℕ) (l : Led)
    → IsLed g b es sl stale l → IsAt es l.finished
is_at g b es sl stale l a =
    let c = a.counted in
    let p = c.admitted_are in
    let q = c.finished_within in
    record { admitted = omega (arith, p, q); written_are = c.written_are }

-- what the leader's open terms lack is to be fetched
pub missing_lists : (g : Setup) (b : RunTold) (es : List Event) (sl : Slack) (stale : List ℕ) (l : Led)
    → IsLed g b es sl stale l → IsFetchList es l.finished (missing_of l)
missing_lists g b es sl stale l a =
    let s = l.finished - first_of l.plans in
    let c = l.admitted - l.finished in
    let ds = lacked s c l.plans in
    let opened = open_is g b es sl stale l a in
    let at = is_at g b es sl stale l a in
    let lacked_all : Each (IsLacked es (open_terms es l.finished)) ds =
    subst (λ (ts : List Task). Each (IsLacked es ts) ds) (sym opened)
    (plans_lacked g b es sl stale s c l.plans a.plans.each) in
    let kept_all : Each (IsKeptOrListed es ds) (open_terms es l.finished) =
    subst (Each (IsKeptOrListed es ds)) (sym opened) (plans_kept g b es sl stale s c l.plans a.plans.each) in
    record {
      missing = all_each (λ d. IsMissing es d.plan d.block) [] ds tt
          (each_weaker (IsLacked es (open_terms es l.finished)) (λ d. IsMissing es d.plan d.block) ds
          (λ d h. record { wanted = wanted_is es l.finished d.plan d.block at ∙ h.0; absent = h.1 }) lacked_all);
      apart = all_apart [] ds tt;
      whole = each_weaker (IsKeptOrListed es ds) (IsKeptOrListed es (missing_of l)) (open_terms es l.finished)
          (λ t h e. ⊎_elim (λ (k : is_kept es t.plan t.term.block ≡ true). inl k)
          (λ (k : lists ds (place_of t) ≡ true). inr (all_in [] ds (place_of t) k)) (h e)) kept_all;
    }
