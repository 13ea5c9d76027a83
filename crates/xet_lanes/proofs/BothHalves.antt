-- What the lanes of both halves did is what all did.
use Rattle.std.proofs.Common.{◌≡◌, List, [], ◌∷◌, ◌++◌, map, sym, ap, ◌∙◌, subst}
use Rattle.std.proofs.lemmas.List.{map-append}
use Rattle.xet_outside.specs.Told.{ClientTold}
use Rattle.xet_claims.specs.declared.claims.Claims.{Claims}
use Rattle.xet_ties.specs.Lanes.{Ask}
use Rattle.xet_lanes.specs.steps.Drawn.{AllDrew, AllReady, Work}

both_drew : (c : Claims) (fs : List Ask) (bs bs' ns ns' : List ClientTold) (ws ws' : List Work) → AllDrew c fs bs ns ws
    → AllDrew c fs bs' ns' ws' → AllDrew c fs (bs ++ bs') (ns ++ ns') (ws ++ ws')
both_drew c fs [] bs' [] ns' [] ws' a h = h
both_drew c fs [] bs' (n ∷ ns) ns' ws ws' a h = absurd a
both_drew c fs [] bs' [] ns' (x ∷ ws) ws' a h = absurd a
both_drew c fs (b ∷ bs) bs' [] ns' ws ws' a h = absurd a
both_drew c fs (b ∷ bs) bs' (n ∷ ns) ns' [] ws' a h = absurd a
both_drew c fs (b ∷ bs) bs' (n ∷ ns) ns' (x ∷ ws) ws' a h = (a.0, both_drew c fs bs bs' ns ns' ws ws' a.1 h)

pub all_drew : {C J : Type 0} (f : C → ClientTold) (w : J → Work) (c : Claims) (fs : List Ask) (xs a b a' b' : List C)
    (js js' : List J) → xs ≡ a ++ b → AllDrew c fs (map f a) (map f a') (map w js)
    → AllDrew c fs (map f b) (map f b') (map w js') → AllDrew c fs (map f xs) (map f (a' ++ b')) (map w (js ++ js'))
all_drew f w c fs xs a b a' b' js js' e p q =
    let start : map f xs ≡ map f a ++ map f b = ap (λ l. map f l) e ∙ map-append f a b in
    let end : map f (a' ++ b') ≡ map f a' ++ map f b' = map-append f a' b' in
    let jobs : map w (js ++ js') ≡ map w js ++ map w js' = map-append w js js' in
    let P : List ClientTold → Type 0 = λ l. AllDrew c fs l (map f (a' ++ b')) (map w (js ++ js')) in
    let Q : List ClientTold → Type 0 = λ l. AllDrew c fs (map f a ++ map f b) l (map w (js ++ js')) in
    let R : List Work → Type 0 = λ l. AllDrew c fs (map f a ++ map f b) (map f a' ++ map f b') l in
    subst P (sym start) (subst Q (sym end) (subst R (sym jobs) (both_drew c fs _ _ _ _ _ _ p q)))

ready_apart : (c : Claims) (a b : List Work) → AllReady c (a ++ b) → AllReady c a × AllReady c b
ready_apart c [] b h = (tt, h)
ready_apart c (x ∷ a) b h = let r = ready_apart c a b h.1 in ((h.0, r.0), r.1)

pub ready_halves : {J : Type 0} (w : J → Work) (c : Claims) (xs a b : List J) → xs ≡ a ++ b → AllReady c (map w xs)
    → AllReady c (map w a) × AllReady c (map w b)
ready_halves w c xs a b e h =
    let f : map w xs ≡ map w a ++ map w b = ap (λ l. map w l) e ∙ map-append w a b in
    ready_apart c (map w a) (map w b) (subst (λ (l : List Work). AllReady c l) f h)
