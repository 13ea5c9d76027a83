-- The places of the queries that cut a range, among more that were asked, and the answers to them.
use Rattle.std.proofs.Common.{◌≡◌, ℕ, zero, suc, ◌+◌, ◌-◌, Bool, true, false, cond, List, [], ◌∷◌, ◌++◌, length, sym, refl, subst, ◌∙◌, ap, arith, Some}
use Rattle.std.specs.Prelude.{nat_le, slice_get}
use Rattle.xet_base.specs.declared.cas_types.FileRange.{FileRange}
use Rattle.xet_base.specs.declared.merklehash.MerkleHash.{MerkleHash}
use Rattle.xet_outside.specs.Answers.{plans_in}
use Rattle.xet_outside.specs.Told.{Query}
use Rattle.xet_outside.specs.declared.plan.PlanAnswer.{PlanAnswer}
use Rattle.xet_outside.specs.declared.said.Said.{Said}
use Rattle.xet_outside.proofs.CallerLemmas.{plans_both}
use Rattle.xet_ties.specs.InCall.{EachGrew, Exchange, ExchangeGrew}
use Rattle.xet_ties.specs.Saids.{AnswerOf, IsCutAnswer, IsQueryAnswer, cut_places}

-- ---- lists

-- the first ones of a longer list
pub first_at : {A : Type 0} (xs ys : List A) (i : ℕ) (x : A) → slice_get xs i ≡ Some x
    → slice_get (xs ++ ys) i ≡ Some x
first_at [] ys i x h = absurd (cc)
first_at (y ∷ xs) ys zero x h = h
first_at (y ∷ xs) ys (suc i) x h = first_at xs ys i x h

-- the one behind a list
pub next_at : {A : Type 0} (xs : List A) (x : A) → slice_get (xs ++ x ∷ []) (length xs) ≡ Some x
next_at [] x = refl
next_at (y ∷ xs) x = next_at xs x

-- ---- places

-- where the queries that cut the range end
abbrev pub cut_end : ℕ → List Query → ℕ
cut_end end [] = end
cut_end end (q ∷ qs) = cond (nat_le end q.1.start) (cut_end q.1.end qs) (cut_end end qs)

pub places_append : (p e : ℕ) (xs ys : List Query)
    → cut_places p e (xs ++ ys) ≡ cut_places p e xs ++ cut_places (p + length xs) (cut_end e xs) ys
places_append p e [] ys = let z : p ≡ p + length {A = Query} [] = omega arith in ap (λ (i : ℕ). cut_places i e ys) z
places_append p e (q ∷ xs) ys =
    by (places_append (p + 1) q.1.end xs ys) (places_append (p + 1) e xs ys) (nat_le e q.1.start)
  where
    z : (p + 1) + length xs ≡ p + length (q ∷ xs)
    z = omega arith

    by : cut_places (p + 1) q.1.end (xs ++ ys)
        ≡ cut_places (p + 1) q.1.end xs ++ cut_places ((p + 1) + length xs) (cut_end q.1.end xs) ys
        → cut_places (p + 1) e (xs ++ ys)
        ≡ cut_places (p + 1) e xs ++ cut_places ((p + 1) + length xs) (cut_end e xs) ys
        → (v : Bool) → cond v (p ∷ cut_places (p + 1) q.1.end (xs ++ ys)) (cut_places (p + 1) e (xs ++ ys))
        ≡ cond v (p ∷ cut_places (p + 1) q.1.end xs) (cut_places (p + 1) e xs)
        ++ cut_places (p + length (q ∷ xs)) (cond v (cut_end q.1.end xs) (cut_end e xs)) ys
    by a b true =
        ap (λ (l : List ℕ). p ∷ l)
        (a ∙ ap (λ (i : ℕ). cut_places (p + 1) q.1.end xs ++ cut_places i (cut_end q.1.end xs) ys) z)
    by a b false = b ∙ ap (λ (i : ℕ). cut_places (p + 1) e xs ++ cut_places i (cut_end e xs) ys) z

-- ---- answers

-- an answer stays where it is when more is asked and said
pub answer_of_more : (x y : Exchange) (n : ℕ) (q : Query) (a : PlanAnswer) → ExchangeGrew x y → AnswerOf x n q a
    → AnswerOf y n q a
answer_of_more x y n q a w t = record {
  place = t.place;
  some = t.some;
  at =
      subst (λ (l : List Query). slice_get (cut_places 0 0 l) (n - 1) ≡ Some t.place) (sym w.is_asked)
      (subst (λ (l : List ℕ). slice_get l (n - 1) ≡ Some t.place) (sym (places_append 0 0 x.asked w.asked))
      (first_at (cut_places 0 0 x.asked) (cut_places (0 + length x.asked) (cut_end 0 x.asked) w.asked) (n - 1) t.place
      t.at));
  query =
      subst (λ (l : List Query). slice_get l t.place ≡ Some q) (sym w.is_asked)
      (first_at x.asked w.asked t.place q t.query);
  answer =
      subst (λ (l : List Said). slice_get (plans_in l) t.place ≡ Some a) (sym w.is_said)
      (subst (λ (l : List PlanAnswer). slice_get l t.place ≡ Some a) (sym (plans_both x.said w.said))
      (first_at (plans_in x.said) (plans_in w.said) t.place a t.answer));
}

pub cut_answer_more : (f : MerkleHash) (xs ys : List Exchange) (n : ℕ) (q : FileRange) (a : PlanAnswer)
    → EachGrew xs ys → IsCutAnswer f xs n q a → IsCutAnswer f ys n q a
cut_answer_more f [] ys n q a w t = absurd t
cut_answer_more f (x ∷ xs) [] n q a w t = absurd w
cut_answer_more f (x ∷ xs) (y ∷ ys) n q a w t = answer_of_more x y n (f, q) a w.0 t

-- it is one to its query
pub own_answer : (f : MerkleHash) (xs : List Exchange) (n : ℕ) (q : FileRange) (a : PlanAnswer)
    → IsCutAnswer f xs n q a → IsQueryAnswer f xs q a
own_answer f [] n q a t = absurd t
own_answer f (x ∷ xs) n q a t = record { place = t.place; query = t.query; answer = t.answer }
