-- What is to be fetched after a block was found, or not.
use Rattle.std.proofs.Common.{◌≡◌, ℕ, ◌-◌, true, false, List, [], ◌∷◌, ◌++◌, take, drop, refl, sym, subst, ◌∙◌, ap, inl, inr, ⊎_elim}
use Rattle.std.specs.Prelude.{count_by}
use Rattle.std.proofs.lemmas.Bool.{or_cases, or_from, or_left, or_parts, or_right}
use Rattle.std.proofs.lemmas.List.{append-nil}
use Rattle.std.proofs.lemmas.List.Concat.{flat_map-append}
use Rattle.std.proofs.lemmas.List.Folds.{list_any-append}
use Rattle.xet_events.specs.declared.event.Event.{Event}
use Rattle.xet_events.specs.declared.event.Event.TheVariants.{Cached}
use Rattle.xet_events.specs.declared.event.PlannedBlock.{PlannedBlock}
use Rattle.xet_events.specs.Allowed.{IsMissing}
use Rattle.xet_events.specs.Events.{Task, is_admit, is_kept, keeps, planned}
use Rattle.xet_events.proofs.CallerLemmas.{any-push, planned-push}
use Rattle.xet_ties.specs.History.{block_at}
use Rattle.xet_ties.specs.Windows.{open_terms}
use Rattle.xet_ties.proofs.CallerLemmas.{block_at-push, count-same, missing-push}
use Rattle.xet_leader.specs.declared.missing_blocks.BlockAt.{BlockAt}
use Rattle.xet_leader.specs.FetchLists.{AreApart, Each, IsFetchList, IsKeptOrListed, place_of}
use Rattle.xet_leader.specs.Lacking.{lists, same_place}
use Rattle.xet_leader.specs.Looks.{blocks_of}
use Rattle.xet_leader.proofs.FetchFacts.{same_back}
use Rattle.xet_leader.proofs.LookSteps.{still}
use Rattle.xet_leader.proofs.PlanFacts.{each_append, each_back, each_front, each_weaker}

-- ---- a list without one of its places

apart_back : (cs ds : List BlockAt) → AreApart (cs ++ ds) → AreApart ds
apart_back [] ds a = a
apart_back (c ∷ cs) ds a = apart_back cs ds a.1

-- the place is none of those before it
apart_before : (cs ds : List BlockAt) (c : BlockAt) → AreApart (cs ++ c ∷ ds) → Each (λ d. same_place d c ≡ false) cs
apart_before [] ds c a = tt
apart_before (d ∷ cs) ds c a =
    let p = or_parts (lists cs d) (lists (c ∷ ds) d)
    (sym (list_any-append (λ x. same_place x d) cs (c ∷ ds)) ∙ a.0) in
    let q = or_parts (same_place c d) (lists ds d) p.1 in
    (same_back c d q.0, apart_before cs ds c a.1)

not_listed : (cs : List BlockAt) (c : BlockAt) → lists cs c ≡ false → Each (λ d. same_place d c ≡ false) cs
not_listed [] c h = tt
not_listed (d ∷ cs) c h = let p = or_parts (same_place d c) (lists cs c) h in (p.0, not_listed cs c p.1)

-- and none of the others
apart_others : (cs ds : List BlockAt) (c : BlockAt) → AreApart (cs ++ c ∷ ds)
    → Each (λ d. same_place d c ≡ false) (cs ++ ds)
apart_others cs ds c a = each_append (λ d. same_place d c ≡ false) cs ds (apart_before cs ds c a)
    (not_listed ds c (apart_back cs (c ∷ ds) a).0)

apart_without : (cs ds : List BlockAt) (c : BlockAt) → AreApart (cs ++ c ∷ ds) → AreApart (cs ++ ds)
apart_without [] ds c a = a.1
apart_without (d ∷ cs) ds c a =
    let p = or_parts (lists cs d) (lists (c ∷ ds) d)
    (sym (list_any-append (λ x. same_place x d) cs (c ∷ ds)) ∙ a.0) in
    let q = or_parts (same_place c d) (lists ds d) p.1 in (
      list_any-append (λ x. same_place x d) cs ds ∙ or_from (lists cs d) (lists ds d) p.0 q.1,
      apart_without cs ds c a.1,
    )

each_without : (P : BlockAt → Type 0) (cs ds : List BlockAt) (c : BlockAt) → Each P (cs ++ c ∷ ds) → Each P (cs ++ ds)
each_without P [] ds c a = a.1
each_without P (d ∷ cs) ds c a = (a.0, each_without P cs ds c a.1)

each_both : (P Q R : BlockAt → Type 0) (cs : List BlockAt) → ((c : BlockAt) → P c → Q c → R c) → Each P cs → Each Q cs
    → Each R cs
each_both P Q R [] f a b = tt
each_both P Q R (c ∷ cs) f a b = (f c a.0 b.0, each_both P Q R cs f a.1 b.1)

-- ---- a block that the cache gave

open_same : (es : List Event) (c : BlockAt) (f : ℕ)
    → open_terms (es ++ Cached c.plan c.block ∷ []) f ≡ open_terms es f
open_same es c f =
    let e : Event = Cached c.plan c.block in
    ap (λ (n : ℕ). take (n - f) (drop f (planned (es ++ e ∷ [])))) (count-same is_admit es e refl)
    ∙ ap (λ (ts : List Task). take (count_by is_admit es - f) (drop f ts))
    (planned-push es e ∙ append-nil (planned es))

kept_more : (es : List Event) (e : Event) (p k : ℕ) → is_kept es p k ≡ true → is_kept (es ++ e ∷ []) p k ≡ true
kept_more es e p k h = any-push (keeps p k) es e ∙ or_left (is_kept es p k) (keeps p k e) h

kept_now : (es : List Event) (c d : BlockAt) → same_place c d ≡ true
    → is_kept (es ++ Cached c.plan c.block ∷ []) d.plan d.block ≡ true
kept_now es c d h = any-push (keeps d.plan d.block) es (Cached c.plan c.block)
    ∙ or_right (is_kept es d.plan d.block) (keeps d.plan d.block (Cached c.plan c.block)) h

still_listed : (es : List Event) (cs ds : List BlockAt) (c : BlockAt) (t : Task) → IsKeptOrListed es (cs ++ c ∷ ds) t
    → IsKeptOrListed (es ++ Cached c.plan c.block ∷ []) (cs ++ ds) t
still_listed es cs ds c t h some =
    let e : Event = Cached c.plan c.block in
    let p = place_of t in
    ⊎_elim
    (λ (k : is_kept es t.plan t.term.block ≡ true). inl (kept_more es e t.plan t.term.block k))
    (λ (k : lists (cs ++ c ∷ ds) p ≡ true).
    ⊎_elim
    (λ (m : lists cs p ≡ true). inr (list_any-append (λ x. same_place x p) cs ds
    ∙ or_left (lists cs p) (lists ds p) m))
    (λ (m : lists (c ∷ ds) p ≡ true).
    ⊎_elim
    (λ (q : same_place c p ≡ true). inl (kept_now es c p q))
    (λ (q : lists ds p ≡ true). inr (list_any-append (λ x. same_place x p) cs ds
    ∙ or_right (lists cs p) (lists ds p) q))
    (or_cases (same_place c p) (lists ds p) m))
    (or_cases (lists cs p) (lists (c ∷ ds) p) (sym (list_any-append (λ x. same_place x p) cs (c ∷ ds)) ∙ k)))
    (h some)

-- the rest is to be fetched after it
pub list_found : (es : List Event) (f : ℕ) (cs ds : List BlockAt) (c : BlockAt) → IsFetchList es f (cs ++ c ∷ ds)
    → IsFetchList (es ++ Cached c.plan c.block ∷ []) f (cs ++ ds)
list_found es f cs ds c a =
    let e : Event = Cached c.plan c.block in
    record {
      missing = each_both (λ d. IsMissing es d.plan d.block) (λ d. same_place d c ≡ false)
          (λ d. IsMissing (es ++ e ∷ []) d.plan d.block) (cs ++ ds)
          (λ d m off. missing-push es e d.plan d.block (still c.plan c.block) (same_back d c off) m)
          (each_without (λ d. IsMissing es d.plan d.block) cs ds c a.missing) (apart_others cs ds c a.apart);
      apart = apart_without cs ds c a.apart;
      whole = subst (Each (IsKeptOrListed (es ++ e ∷ []) (cs ++ ds))) (sym (open_same es c f))
          (each_weaker (IsKeptOrListed es (cs ++ c ∷ ds)) (IsKeptOrListed (es ++ e ∷ []) (cs ++ ds)) (open_terms es f)
          (λ t h. still_listed es cs ds c t h) a.whole);
    }

-- the block of this place of the list is missing
pub list_at : (es : List Event) (f : ℕ) (cs ds : List BlockAt) (c : BlockAt) → IsFetchList es f (cs ++ c ∷ ds)
    → IsMissing es c.plan c.block
list_at es f cs ds c a = (each_back (λ d. IsMissing es d.plan d.block) cs (c ∷ ds) a.missing).0

-- and those before it
pub list_front : (es : List Event) (f : ℕ) (cs ds : List BlockAt) → IsFetchList es f (cs ++ ds)
    → Each (λ d. IsMissing es d.plan d.block) cs
list_front es f cs ds a = each_front (λ d. IsMissing es d.plan d.block) cs ds a.missing

-- ---- the planned blocks

pub blocks_push : (es : List Event) (cs : List BlockAt) (c : BlockAt) (x : PlannedBlock)
    → block_at es c.plan c.block ≡ x ∷ [] → blocks_of es (cs ++ c ∷ []) ≡ blocks_of es cs ++ x ∷ []
blocks_push es cs c x h =
    flat_map-append (λ (d : BlockAt). block_at es d.plan d.block) cs (c ∷ [])
    ∙ ap (λ (l : List PlannedBlock). blocks_of es cs ++ l) (append-nil (block_at es c.plan c.block) ∙ h)

pub blocks_stay : (es : List Event) (e : Event) (cs : List BlockAt)
    → Each (λ c. (x : PlannedBlock) × (block_at es c.plan c.block ≡ x ∷ [])) cs
    → blocks_of (es ++ e ∷ []) cs ≡ blocks_of es cs
blocks_stay es e [] a = refl
blocks_stay es e (c ∷ cs) a =
    let h = a.0 in
    ap (λ (l : List PlannedBlock). l ++ blocks_of (es ++ e ∷ []) cs)
    (block_at-push es e c.plan c.block h.0 h.1 ∙ sym h.1)
    ∙ ap (λ (l : List PlannedBlock). block_at es c.plan c.block ++ l) (blocks_stay es e cs a.1)
