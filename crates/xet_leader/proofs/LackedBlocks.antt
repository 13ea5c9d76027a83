-- Lists of blocks without repetition, and what terms lack.
use Rattle.std.proofs.Common.{⊎_elim, ◌≡◌, ℕ, ◌+◌, ◌-◌, ◌<◌, ◌≤◌, List, [], ◌∷◌, ◌++◌, length, take, drop, refl, sym, ◌∙◌, ap, arith, append_assoc, get_or}
use Rattle.std.specs.Prelude.{◌⊎◌, None, Option}
use Rattle.std.proofs.lemmas.List.{append-nil, drop_all, drop_more, take_more}
use Rattle.std.proofs.lemmas.List.Concat.{flat_map-append}
use Rattle.xet_blocks.specs.declared.reconstruction_terms.file_term.FileTerm.{FileTerm}
use Rattle.xet_leader.specs.declared.leader.LedPlan.{LedPlan}
use Rattle.xet_leader.specs.declared.missing_blocks.BlockAt.{BlockAt}
use Rattle.xet_leader.specs.Lacking.{lacked, lacked_by, lacked_in, with_place, with_places}
use Rattle.xet_leader.specs.Listings.{lowest_from, lowest_with}

-- ---- lists of places

with_places-append : (cs ds es : List BlockAt) → with_places cs (ds ++ es) ≡ with_places (with_places cs ds) es
with_places-append cs [] es = refl
with_places-append cs (d ∷ ds) es = with_places-append (with_place cs d) ds es

-- one more place is listed
pub once_more : (cs ds ps : List BlockAt) (i : ℕ) (p : BlockAt) → i < length ps → cs ≡ with_places [] (take i ps)
    → ds ≡ with_place cs (get_or ps i p) → ds ≡ with_places [] (take (i + 1) ps)
once_more cs ds ps i p h before more =
    let here = get_or ps i p in
    more ∙ ap (λ (u : List BlockAt). with_place u here) before
    ∙ sym (with_places-append [] (take i ps) (here ∷ []))
    ∙ ap (with_places []) (sym (take_more ps i p h))

-- the lowest number, with one more place
lowest_from-append : (o : Option ℕ) (plan : ℕ) (cs ds : List BlockAt)
    → lowest_from o plan (cs ++ ds) ≡ lowest_from (lowest_from o plan cs) plan ds
lowest_from-append o plan [] ds = refl
lowest_from-append o plan (c ∷ cs) ds = lowest_from-append (lowest_with o plan c) plan cs ds

pub lowest_more : (plan : ℕ) (o q : Option ℕ) (ps : List BlockAt) (i : ℕ) (p : BlockAt) → i < length ps
    → o ≡ lowest_from None plan (take i ps) → q ≡ lowest_with o plan (get_or ps i p)
    → q ≡ lowest_from None plan (take (i + 1) ps)
lowest_more plan o q ps i p h before more =
    let here = get_or ps i p in
    more ∙ ap (λ (u : Option ℕ). lowest_with u plan here) before
    ∙ sym (lowest_from-append None plan (take i ps) (here ∷ []))
    ∙ ap (lowest_from None plan) (sym (take_more ps i p h))

-- ---- walks over terms and plans

-- one more term of a plan
lacked_by_more : (l : LedPlan) (ts : List FileTerm) (i : ℕ) (t : FileTerm) → i < length ts
    → lacked_by l (take (i + 1) ts) ≡ lacked_by l (take i ts) ++ lacked_in l (get_or ts i t)
lacked_by_more l ts i t h =
    let here = lacked_in l (get_or ts i t) in
    let more : take (i + 1) ts ≡ take i ts ++ get_or ts i t ∷ [] = take_more ts i t h in
    ap (lacked_by l) more ∙ flat_map-append (lacked_in l) (take i ts) (get_or ts i t ∷ [])
    ∙ ap (λ (u : List BlockAt). lacked_by l (take i ts) ++ u) (append-nil here)

pub lacked_more : (l : LedPlan) (cs ds es : List BlockAt) (ts : List FileTerm) (i : ℕ) (t : FileTerm) → i < length ts
    → ds ≡ cs ++ lacked_by l (take i ts) → es ≡ ds ++ lacked_in l (get_or ts i t)
    → es ≡ cs ++ lacked_by l (take (i + 1) ts)
lacked_more l cs ds es ts i t h d e =
    let here = lacked_in l (get_or ts i t) in
    e ∙ ap (λ (u : List BlockAt). u ++ here) d ∙ append_assoc cs (lacked_by l (take i ts)) here
    ∙ ap (λ (u : List BlockAt). cs ++ u) (sym (lacked_by_more l ts i t h))

-- one more plan
pub lacked_next : (plans : List LedPlan) (at skip left skips lefts : ℕ) (l : LedPlan) (cs ds all : List BlockAt)
    → at < length plans → l ≡ get_or plans at l → ds ≡ cs ++ lacked_by l (take left (drop skip l.block.terms))
    → skips ≡ skip - length l.block.terms → lefts ≡ left - (length l.block.terms - skip)
    → cs ++ lacked skip left (drop at plans) ≡ all
    → ds ++ lacked skips lefts (drop (at + 1) plans) ≡ all
lacked_next plans at skip left skips lefts l cs ds all h is d s t before =
    let n = length l.block.terms in
    let rest = drop (at + 1) plans in
    let here = lacked_by l (take left (drop skip l.block.terms)) in
    let head : drop at plans ≡ l ∷ rest = drop_more plans at l h ∙ ap (λ (u : LedPlan). u ∷ rest) (sym is) in
    let same : lacked skip left (drop at plans) ≡ here ++ lacked (skip - n) (left - (n - skip)) rest =
    ap (lacked skip left) head in
    ap (λ (u : List BlockAt). u ++ lacked skips lefts rest) d
    ∙ append_assoc cs here (lacked skips lefts rest)
    ∙ ap (λ (u : ℕ). cs ++ (here ++ lacked u lefts rest)) s
    ∙ ap (λ (u : ℕ). cs ++ (here ++ lacked (skip - n) u rest)) t
    ∙ ap (λ (u : List BlockAt). cs ++ u) (sym same)
    ∙ before

lacked_none : (skip : ℕ) (ls : List LedPlan) → lacked skip 0 ls ≡ []
lacked_none skip [] = refl
lacked_none skip (l ∷ ls) =
    let z : 0 - (length l.block.terms - skip) ≡ 0 = omega arith in
    ap (λ (n : ℕ). lacked (skip - length l.block.terms) n ls) z ∙ lacked_none (skip - length l.block.terms) ls

-- no plan, or no term is left
pub lacked_end : (plans : List LedPlan) (at skip left : ℕ) (cs all : List BlockAt) → (length plans ≤ at) ⊎ (left ≡ 0)
    → cs ++ lacked skip left (drop at plans) ≡ all → cs ≡ all
lacked_end plans at skip left cs all h before =
    let none : lacked skip left (drop at plans) ≡ [] =
    ⊎_elim
    (λ (past : length plans ≤ at). ap (lacked skip left) (drop_all at plans past))
    (λ (none : left ≡ 0). ap (λ (n : ℕ). lacked skip n (drop at plans)) none ∙ lacked_none skip (drop at plans))
    h
    in
    sym (append-nil cs) ∙ ap (λ (u : List BlockAt). cs ++ u) (sym none) ∙ before
