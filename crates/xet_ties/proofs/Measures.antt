-- Each fetch that was served or answered that its URL had expired leaves fewer tries, and so does a block that the cache gave.
use Rattle.std.proofs.Common.{◌≡◌, ℕ, zero, suc, ◌+◌, ◌-◌, ◌<◌, ◌≤◌, ◌==◌, ◌&&◌, ◌||◌, Bool, true, false, cond, List, [], ◌∷◌, ◌++◌, refl, sym, subst, ◌∙◌, ap, arith, Some}
use Rattle.std.specs.Prelude.{count_by, slice_get}
use Rattle.std.proofs.lemmas.Bool.{eq-eqb}
use Rattle.xet_events.specs.declared.event.Event.{Event}
use Rattle.xet_events.specs.declared.event.Event.TheVariants.{Fetched, Cached, Expired}
use Rattle.xet_events.specs.Events.{expires, is_kept, keeps}
use Rattle.xet_events.proofs.CallerLemmas.{any-push, count_by-push}
use Rattle.xet_ties.specs.Measures.{left, left_of}
use Rattle.xet_ties.specs.Recordings.{Place}

falls : (v w : Bool) (n m : ℕ) → n ≤ m → cond {A = ℕ} (v || w) 0 n ≤ cond v 0 m
falls true w n m h = omega arith
falls false true n m h = omega arith
falls false false n m h = h

-- no event adds to it
pub left_of-push : (tries : ℕ) (es : List Event) (e : Event) (c : Place) → left_of tries (es ++ e ∷ []) c ≤ left_of tries es c
left_of-push tries es e c =
    let k : is_kept (es ++ e ∷ []) c.0 c.1 ≡ (is_kept es c.0 c.1 || keeps c.0 c.1 e) = any-push (keeps c.0 c.1) es e in
    let n = count_by-push (expires c.0 c.1) es e in
    let less : (tries - count_by (expires c.0 c.1) (es ++ e ∷ [])) + 1 ≤ (tries - count_by (expires c.0 c.1) es) + 1 = omega (arith, n) in
    subst (λ (v : Bool). cond v 0 ((tries - count_by (expires c.0 c.1) (es ++ e ∷ [])) + 1) ≤ left_of tries es c) (sym k) (falls (is_kept es c.0 c.1) (keeps c.0 c.1 e) _ _ less)

pub left-push : (tries : ℕ) (es : List Event) (e : Event) (cs : List Place) → left tries (es ++ e ∷ []) cs ≤ left tries es cs
left-push tries es e [] = omega arith
left-push tries es e (c ∷ cs) = let r = left-push tries es e cs in let h = left_of-push tries es e c in omega (arith, r, h)

-- and one that lowers it for one of the blocks lowers the whole
lowers : (tries : ℕ) (es : List Event) (e : Event) (cs : List Place) (k : ℕ) (c : Place) → slice_get cs k ≡ Some c → left_of tries (es ++ e ∷ []) c < left_of tries es c → left tries (es ++ e ∷ []) cs < left tries es cs
lowers tries es e [] k c at h = absurd (cc)
lowers tries es e (d ∷ cs) zero c at h =
    let same : d ≡ c = cc in
    let g : left_of tries (es ++ e ∷ []) d < left_of tries es d = subst (λ (x : Place). left_of tries (es ++ e ∷ []) x < left_of tries es x) (sym same) h in
    let r = left-push tries es e cs in omega (arith, g, r)
lowers tries es e (d ∷ cs) (suc k) c at h = let r = lowers tries es e cs k c at h in let g = left_of-push tries es e d in omega (arith, r, g)

same_keys : (p k : ℕ) → (p == p && k == k) ≡ true
same_keys p k = ap (λ (v : Bool). v && (k == k)) (eq-eqb p p refl) ∙ eq-eqb k k refl

-- a missing block was fetched
pub left_fetched : (tries : ℕ) (es : List Event) (lane : ℕ) (cs : List Place) (i : ℕ) (c : Place) → slice_get cs i ≡ Some c → is_kept es c.0 c.1 ≡ false → left tries (es ++ Fetched lane c.0 c.1 ∷ []) cs < left tries es cs
left_fetched tries es lane cs i c at absent =
    let e : Event = Fetched lane c.0 c.1 in
    let kept : is_kept (es ++ e ∷ []) c.0 c.1 ≡ true = any-push (keeps c.0 c.1) es e ∙ ap (λ (v : Bool). v || (c.0 == c.0 && c.1 == c.1)) absent ∙ same_keys c.0 c.1 in
    let now : left_of tries (es ++ e ∷ []) c ≡ 0 = ap (λ (v : Bool). cond {A = ℕ} v 0 ((tries - count_by (expires c.0 c.1) (es ++ e ∷ [])) + 1)) kept in
    let was : left_of tries es c ≡ (tries - count_by (expires c.0 c.1) es) + 1 = ap (λ (v : Bool). cond {A = ℕ} v 0 ((tries - count_by (expires c.0 c.1) es) + 1)) absent in
    lowers tries es e cs i c at (omega (arith, now, was))

-- the cache gave a missing block
pub left_cached : (tries : ℕ) (es : List Event) (cs : List Place) (i : ℕ) (c : Place) → slice_get cs i ≡ Some c → is_kept es c.0 c.1 ≡ false → left tries (es ++ Cached c.0 c.1 ∷ []) cs < left tries es cs
left_cached tries es cs i c at absent =
    let e : Event = Cached c.0 c.1 in
    let kept : is_kept (es ++ e ∷ []) c.0 c.1 ≡ true = any-push (keeps c.0 c.1) es e ∙ ap (λ (v : Bool). v || (c.0 == c.0 && c.1 == c.1)) absent ∙ same_keys c.0 c.1 in
    let now : left_of tries (es ++ e ∷ []) c ≡ 0 = ap (λ (v : Bool). cond {A = ℕ} v 0 ((tries - count_by (expires c.0 c.1) (es ++ e ∷ [])) + 1)) kept in
    let was : left_of tries es c ≡ (tries - count_by (expires c.0 c.1) es) + 1 = ap (λ (v : Bool). cond {A = ℕ} v 0 ((tries - count_by (expires c.0 c.1) es) + 1)) absent in
    lowers tries es e cs i c at (omega (arith, now, was))

-- a missing block's URL had expired, which it may
pub left_expired : (tries : ℕ) (es : List Event) (lane : ℕ) (cs : List Place) (i : ℕ) (c : Place) → slice_get cs i ≡ Some c → is_kept es c.0 c.1 ≡ false → count_by (expires c.0 c.1) es < tries → left tries (es ++ Expired lane c.0 c.1 ∷ []) cs < left tries es cs
left_expired tries es lane cs i c at absent some =
    let e : Event = Expired lane c.0 c.1 in
    let kept : is_kept (es ++ e ∷ []) c.0 c.1 ≡ false = any-push (keeps c.0 c.1) es e ∙ ap (λ (v : Bool). v || false) absent in
    let more : count_by (expires c.0 c.1) (es ++ e ∷ []) ≡ count_by (expires c.0 c.1) es + 1 = count_by-push (expires c.0 c.1) es e ∙ ap (λ (v : Bool). count_by (expires c.0 c.1) es + cond v 1 0) (same_keys c.0 c.1) in
    let now : left_of tries (es ++ e ∷ []) c ≡ (tries - count_by (expires c.0 c.1) (es ++ e ∷ [])) + 1 = ap (λ (v : Bool). cond {A = ℕ} v 0 ((tries - count_by (expires c.0 c.1) (es ++ e ∷ [])) + 1)) kept in
    let was : left_of tries es c ≡ (tries - count_by (expires c.0 c.1) es) + 1 = ap (λ (v : Bool). cond {A = ℕ} v 0 ((tries - count_by (expires c.0 c.1) es) + 1)) absent in
    lowers tries es e cs i c at (omega (arith, now, was, more, some))
