-- The planned terms of a leader by how many come before them.
use Rattle.std.proofs.Common.{◌≡◌, ℕ, zero, suc, ◌+◌, ◌≤◌, ◌<◌, List, [], ◌∷◌, drop, get_or, length, refl, sym, ◌∙◌, ap, Option, Some, None, drop-drop}
use Rattle.std.specs.Prelude.{slice_get}
use Rattle.std.proofs.lemmas.Option.{slice_get_read, slice_get_within}
use Rattle.xet_blocks.specs.declared.reconstruction_terms.file_term.FileTerm.{FileTerm}
use Rattle.xet_leader.specs.declared.leader.LedPlan.{LedPlan}
use Rattle.xet_leader.specs.Led.{Led}
use Rattle.xet_leader.specs.LedTerms.{PlanTerm, ahead, led_terms, of_plan}
use Rattle.xet_leader.proofs.CallerLemmas.{next_is, next_there, no_file_term, past_all, same_found}
use Rattle.xet_unordered_streams.specs.declared.ahead_terms.AheadTerm.{AheadTerm}
use Rattle.xet_unordered_streams.specs.steps.Dues.{IsTermAhead, IsTermIn}

none_at : {A : Type 0} (n : ℕ) (xs : List A) → drop n xs ≡ [] → slice_get xs n ≡ None
none_at zero [] h = refl
none_at zero (x ∷ xs) h = absurd (cc)
none_at (suc n) [] h = refl
none_at (suc n) (x ∷ xs) h = none_at n xs h

-- no term stands there
pub term_none : (ls : List LedPlan) (passed skip n i j : ℕ) → n ≡ passed + skip
    → drop j (led_terms (drop i ls)) ≡ drop n (led_terms (drop 0 ls)) → length ls ≤ i
    → slice_get (drop passed (led_terms ls)) skip ≡ None
term_none ls passed skip n i j e rest h =
    none_at skip (drop passed (led_terms ls))
    (drop-drop skip passed (led_terms ls) ∙ ap (λ (m : ℕ). drop m (led_terms ls)) (sym e) ∙ sym rest
    ∙ past_all ls i j h)

-- or this one
pub term_some : (ls : List LedPlan) (passed skip n i j : ℕ) (p : LedPlan) (ts : List FileTerm) → n ≡ passed + skip
    → drop j (led_terms (drop i ls)) ≡ drop n (led_terms (drop 0 ls)) → i < length ls → p ≡ get_or ls i p
    → ts ≡ p.block.terms → ((d : LedPlan) → i < length ls → j < length (get_or ls i d).block.terms)
    → IsTermIn ls (drop passed (led_terms ls)) skip (record { place = i; term = get_or ts j no_file_term })
term_some ls passed skip n i j p ts e rest h r same inside =
    let there : drop skip (drop passed (led_terms ls))
    ≡ of_plan p (get_or ts j no_file_term) ∷ drop (j + 1) (led_terms (drop i ls)) =
    drop-drop skip passed (led_terms ls) ∙ ap (λ (m : ℕ). drop m (led_terms ls)) (sym e) ∙ sym rest
    ∙ next_there ls i j p ts h r same inside in
    record {
      plan = p;
      at = slice_get_read ls (length ls) i p refl h r;
      there = (next_is skip (drop passed (led_terms ls)) (of_plan p (get_or ts j no_file_term))
          (drop (j + 1) (led_terms (drop i ls))) there).there;
    }

-- the plan that was read is the term's
pub plan_found : (ls : List LedPlan) (l : Led) → ls ≡ l.plans → (skip : ℕ) (n : AheadTerm) → (x : IsTermAhead l skip n)
    → (p : LedPlan) → p ≡ get_or ls n.place p → x.plan ≡ p
plan_found ls l same skip n x p is =
    let at : slice_get ls n.place ≡ Some x.plan = ap (λ (v : List LedPlan). slice_get v n.place) same ∙ x.at in
    let h = slice_get_within ls n.place x.plan at in
    same_found x.plan p ls n.place n.place at (slice_get_read ls (length ls) n.place p refl h is) refl

-- the term there is the one that was read
pub term_found : (l : Led) (skip : ℕ) (n : AheadTerm) → (x : IsTermAhead l skip n) → (t : PlanTerm)
    → slice_get (ahead l) skip ≡ Some t → t ≡ of_plan x.plan n.term
term_found l skip n x t h =
    let e : ◌≡◌ {A = Option PlanTerm} (Some t) (Some (of_plan x.plan n.term)) = sym h ∙ x.there in cc
