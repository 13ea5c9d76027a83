-- A block is wanted where the last nonempty admitted term that has it ends after the written bytes.
use Rattle.std.proofs.Common.{◌≡◌, ℕ, ◌+◌, ◌≤◌, ◌&&◌, ◌||◌, Bool, true, false, cond, List, [], ◌∷◌, Option, Some, None, refl, sym, ◌∙◌, ap, arith}
use Rattle.std.specs.Prelude.{filter, nat_lt}
use Rattle.std.specs.List.{list_any}
use Rattle.std.proofs.lemmas.Bool.{ltb-true, lt-ltb}
use Rattle.xet_events.specs.Events.{Task, size, needs, ended, has_more}
use Rattle.xet_events.specs.Indexes.{or_else, end_where, last_end, ends_after}

-- the ends lie after the place where the first term stands
pub last_end_from : (p b q : ℕ) (ts : List Task) (e : ℕ) → last_end p b (ended q ts) ≡ Some e → q ≤ e
last_end_from p b q [] e h = absurd (cc)
last_end_from p b q (t ∷ ts) e h = go (last_end p b (ended (q + size t) ts)) (last_end_from p b (q + size t) ts e) (needs p b t && nat_lt 0 (size t)) h
  where
    go : (o : Option ℕ) → (o ≡ Some e → q + size t ≤ e) → (s : Bool) → or_else o (end_where s (q + size t)) ≡ Some e → q ≤ e
    go None f true h = let k : q + size t ≡ e = cc in omega arith
    go None f false h = absurd (cc)
    go (Some d) f s h = let k = f h in omega arith

or_none : (o : Option ℕ) → or_else o None ≡ o
or_none None = refl
or_none (Some e) = refl

-- one more term in front
more : (w m : ℕ) (z l n x : Bool) (o : Option ℕ) → nat_lt w m ≡ l → x ≡ ends_after w o → ((e : ℕ) → o ≡ Some e → m ≤ e)
    → cond (z && l) (n || x) x ≡ ends_after w (or_else o (end_where (n && z) m))
more w m true true true x None h k f = sym h
more w m true true true x (Some e) h k f = let a = ltb-true w m h in let b = f e refl in sym (lt-ltb w e (omega arith))
more w m true true false x o h k f = k ∙ ap (λ r. ends_after w r) (sym (or_none o))
more w m true false true x None h k f = k ∙ sym h
more w m true false true x (Some e) h k f = k
more w m true false false x o h k f = k ∙ ap (λ r. ends_after w r) (sym (or_none o))
more w m false l true x o h k f = k ∙ ap (λ r. ends_after w r) (sym (or_none o))
more w m false l false x o h k f = k ∙ ap (λ r. ends_after w r) (sym (or_none o))

any_cond : {A : Type 0} (p : A → Bool) (s : Bool) (x : A) (xs : List A) → list_any p (cond s (x ∷ xs) xs) ≡ cond s (p x || list_any p xs) (list_any p xs)
any_cond p true x xs = refl
any_cond p false x xs = refl

pub wanted_is : (w p b q : ℕ) (ts : List Task) → list_any (λ c. needs p b c.1) (filter (has_more w) (ended q ts)) ≡ ends_after w (last_end p b (ended q ts))
wanted_is w p b q [] = refl
wanted_is w p b q (t ∷ ts) =
    any_cond (λ (c : ℕ × Task). needs p b c.1) (has_more w (q + size t, t)) (q + size t, t) (filter (has_more w) (ended (q + size t) ts))
    ∙ more w (q + size t) (nat_lt 0 (size t)) (nat_lt w (q + size t)) (needs p b t) (list_any (λ c. needs p b c.1) (filter (has_more w) (ended (q + size t) ts))) (last_end p b (ended (q + size t) ts))
    refl (wanted_is w p b (q + size t) ts) (λ e h. last_end_from p b (q + size t) ts e h)
