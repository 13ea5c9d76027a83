-- New connections to a store, which neither fail nor tell an expired answer.
use Rattle.std.proofs.Common.{◌≡◌, ℕ, zero, suc, ◌+◌, ◌-◌, List, [], ◌∷◌, ◌++◌, map, Option, Some, refl, sym, ap, subst, ◌∙◌, arith}
use Rattle.std.specs.Prelude.{All, MatchOption, replicate}
use Rattle.std.proofs.lemmas.List.{map-append, replicate_more}
use Rattle.std.proofs.lemmas.List.Elements.{All-append, All-cons, All-nil}
use Rattle.xet_base.specs.Store.{IsValid, Store}
use Rattle.xet_outside.specs.Told.{CacheEntry, CacheTold, ClientTold}
use Rattle.xet_serve.specs.Laws.{AreCalm}
use Rattle.xet_serve.specs.Sessions.{NoFaultsAtEnd, total_faults}
use Rattle.xet_ties.specs.Causes.{NoneAtEnd, total_expiries}
use Rattle.xet_ties.specs.Setup.{AllTell, CacheTells, IsHonestEntry, IsOver}
use Rattle.xet_serve_command.specs.steps.Sessions.{new_client}

-- one more
pub clients_more : {X : Type 0} (told : X → ClientTold) (c : ClientTold) (xs : List X) (x : X) (n : ℕ)
    → map told xs ≡ replicate n c → told x ≡ c → map told (xs ++ x ∷ []) ≡ replicate (n + 1) c
clients_more told c xs x n h e =
    map-append told xs (x ∷ []) ∙ ap (λ (ys : List ClientTold). ys ++ told x ∷ []) h
    ∙ ap (λ (y : ClientTold). replicate n c ++ y ∷ []) e ∙ replicate_more n c

-- one more over the store
pub all_over_more : {X : Type 0} (store : X → Store) (s : Store) (xs : List X) (x : X)
    → All (λ y. store y ≡ s) xs → store x ≡ s → All (λ y. store y ≡ s) (xs ++ x ∷ [])
all_over_more store s xs x a e =
    All-append (λ y. store y ≡ s) xs (x ∷ []) a (All-cons (λ y. store y ≡ s) x [] e (All-nil (λ y. store y ≡ s)))

-- ---- they tell the store

all_tell : (s : Store) (n : ℕ) → AllTell s (replicate n (new_client s))
all_tell s zero = tt
all_tell s (suc n) = (refl, all_tell s n)

pub over_store : (s : Store) (n : ℕ) (cs : List ClientTold) → IsValid s → cs ≡ replicate n (new_client s) → IsOver s cs
over_store s n cs valid made = record { tell = subst (AllTell s) (sym made) (all_tell s n); valid = valid }

-- so does a cache without entries
pub none_tells : (s : Store) (k : CacheTold) → k.entries ≡ Some [] → CacheTells s k
none_tells s k none = subst (λ (o : Option (List CacheEntry)). MatchOption o ⊥ (λ es. All (IsHonestEntry s) es))
    (sym none) (All-nil (IsHonestEntry s))

-- ---- no count of theirs moves

abbrev pub AreStill : List ClientTold → Type 0
AreStill [] = Unit {0}
AreStill (c ∷ cs) = (c.faults ≡ 0) × (c.expiries ≡ 0) × AreStill cs

pub all_still : {X : Type 0} (told : X → ClientTold) → ((x : X) → (told x).faults ≡ 0)
    → ((x : X) → (told x).expiries ≡ 0) → (xs : List X) → AreStill (map told xs)
all_still told f e [] = tt
all_still told f e (x ∷ xs) = (f x, e x, all_still told f e xs)

no_faults_at_end : (cs : List ClientTold) → AreStill cs → NoFaultsAtEnd cs
no_faults_at_end [] still = tt
no_faults_at_end (c ∷ cs) still = (let z = still.0 in omega (arith, z), no_faults_at_end cs still.2)

none_at_end : (cs : List ClientTold) → AreStill cs → NoneAtEnd cs
none_at_end [] still = tt
none_at_end (c ∷ cs) still = (let z = still.1 in omega (arith, z), none_at_end cs still.2)

no_faults : (cs : List ClientTold) → AreStill cs → total_faults cs ≡ 0
no_faults [] still = refl
no_faults (c ∷ cs) still = let z = still.0 in let n = no_faults cs still.2 in omega (arith, z, n)

no_expiries : (cs : List ClientTold) → AreStill cs → total_expiries cs ≡ 0
no_expiries [] still = refl
no_expiries (c ∷ cs) still = let z = still.1 in let n = no_expiries cs still.2 in omega (arith, z, n)

pub are_calm : (cs ds : List ClientTold) → AreStill cs → AreStill ds → AreCalm cs ds
are_calm cs ds c d = record {
  faults = no_faults_at_end ds d;
  expiries = none_at_end ds d;
  same_faults = no_faults ds d ∙ sym (no_faults cs c);
  same_expiries = no_expiries ds d ∙ sym (no_expiries cs c);
}
