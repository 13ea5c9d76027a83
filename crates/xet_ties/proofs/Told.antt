-- What connections that tell their lists tell of a call.
use Rattle.std.proofs.Common.{◌≡◌, List, [], ◌∷◌, ◌++◌, length, drop, refl, sym, subst, ◌∙◌, ap, Some, None, Option}
use Rattle.std.specs.Prelude.{IfSome}
use Rattle.xet_outside.specs.declared.said.Said.{Said}
use Rattle.xet_outside.specs.declared.served.Served.{Served}
use Rattle.xet_outside.specs.Told.{Added, ClientTold, Query}
use Rattle.xet_ties.specs.InCall.{EachExchange, Exchange, IsExchange, all_exchanges, answers_of, exchange, exchange_of, new_in, with_exchange}

-- ---- one list

pub drop_front : {A : Type 0} (xs ys : List A) → drop (length xs) (xs ++ ys) ≡ ys
drop_front [] ys = refl
drop_front (x ∷ xs) ys = drop_front xs ys

-- what was added is what is new
pub told_new : {A : Type 0} (b n : Option (List A)) (xs : List A) → Added b n xs → IfSome (new_in b n) (λ ys. ys ≡ xs)
told_new None n xs h = tt
told_new {A = A} (Some ys) n xs h = subst (λ (o : Option (List A)). IfSome (new_in (Some ys) o) (λ zs. zs ≡ xs)) (sym h) (drop_front ys xs)

pub if_some : {A : Type 0} (o : Option A) (P Q : A → Type 0) → ((x : A) → P x → Q x) → IfSome o P → IfSome o Q
if_some None P Q f h = tt
if_some (Some x) P Q f h = f x h

-- ---- one connection

exchange_is : (o : Option (List Query)) (p : Option (List Served)) (q : Option (List Said)) (x : Exchange) → IfSome o (λ l. l ≡ x.asked) → IfSome p (λ l. l ≡ x.served) → IfSome q (λ l. l ≡ x.said) → IfSome (exchange o p q) (λ y. y ≡ x)
exchange_is None p q x a b c = tt
exchange_is (Some qs) None q x a b c = tt
exchange_is (Some qs) (Some es) None x a b c = tt
exchange_is (Some qs) (Some es) (Some all) x a b c =
    ap (λ (l : List Query). let y : Exchange = record { asked = l; served = es; said = all } in y) a
    ∙ ap (λ (l : List Served). let y : Exchange = record { asked = x.asked; served = l; said = all } in y) b
    ∙ ap (λ (l : List Said). let y : Exchange = record { asked = x.asked; served = x.served; said = l } in y) c

one_told : (b n : ClientTold) (x : Exchange) → IsExchange b n x → IfSome (exchange_of b n) (λ y. y ≡ x)
one_told b n x h = exchange_is (new_in b.asked n.asked) (new_in b.served n.served) (new_in b.said n.said) x (told_new b.asked n.asked x.asked h.asks) (told_new b.served n.served x.served h.serves) (told_new b.said n.said x.said h.says)

-- what it was asked and said
abbrev pub bare : Exchange → Exchange
bare x = record { asked = x.asked; served = []; said = x.said }

pub answers_told : (b n : ClientTold) (x : Exchange) → IsExchange b n x → IfSome (answers_of b n) (λ y. y ≡ bare x)
answers_told b n x h = exchange_is (new_in b.asked n.asked) (Some []) (new_in b.said n.said) (bare x) (told_new b.asked n.asked x.asked h.asks) refl (told_new b.said n.said x.said h.says)

-- ---- all connections

with_is : (o : Option Exchange) (p : Option (List Exchange)) (x : Exchange) (xs : List Exchange) → IfSome o (λ y. y ≡ x) → IfSome p (λ ys. ys ≡ xs) → IfSome (with_exchange o p) (λ ys. ys ≡ x ∷ xs)
with_is None p x xs a b = tt
with_is (Some y) None x xs a b = tt
with_is (Some y) (Some ys) x xs a b = ap (λ (z : Exchange). z ∷ ys) a ∙ ap (λ (l : List Exchange). x ∷ l) b

-- what they tell is what was heard
pub all_told : (bs ns : List ClientTold) (xs : List Exchange) → EachExchange bs ns xs → IfSome (all_exchanges bs ns) (λ ys. ys ≡ xs)
all_told [] [] [] h = refl
all_told [] [] (x ∷ xs) h = absurd h
all_told [] (n ∷ ns) xs h = absurd h
all_told (b ∷ bs) [] xs h = absurd h
all_told (b ∷ bs) (n ∷ ns) [] h = absurd h
all_told (b ∷ bs) (n ∷ ns) (x ∷ xs) h = with_is (exchange_of b n) (all_exchanges bs ns) x xs (one_told b n x h.0) (all_told bs ns xs h.1)
