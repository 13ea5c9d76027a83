-- What the jobs of a round say before the join.
use Rattle.std.proofs.Common.{◌≡◌, List, [], ◌∷◌, ◌++◌, map, sym, ap, ◌∙◌, subst}
use Rattle.std.specs.Prelude.{All, Some}
use Rattle.std.proofs.lemmas.List.{map-append}
use Rattle.std.proofs.lemmas.List.Elements.{All-pop}
use Rattle.xet_claims.specs.declared.claims.ClaimPass.{ClaimPass}
use Rattle.xet_claims.specs.declared.claims.Claims.{Claims}
use Rattle.xet_claims.specs.ClaimPasses.{IsPassOf, pass_view}
use Rattle.xet_claims.specs.ClaimViews.{newcomer}
use Rattle.xet_lanes.specs.steps.Drawn.{AllReady, IsReady, Work}

ready_last : (c : Claims) (ws : List Work) (w : Work) → AllReady c ws → IsReady c w → AllReady c (ws ++ w ∷ [])
ready_last c [] w h r = (r, tt)
ready_last c (x ∷ ws) w h r = (h.0, ready_last c ws w h.1 r)

-- a new lane's job
pub jobs_more : {J : Type 0} (v : J → Work) (c : Claims) (js ks : List J) (j : J) → ks ≡ js ++ j ∷ []
    → AllReady c (map v js) → IsPassOf c (v j).claim × (pass_view (v j).claim ≡ newcomer 1 c.count) → (v j).parts ≡ 1
    → (v j).steps ≡ [] → AllReady c (map v ks)
jobs_more v c js ks j e h p q s =
    let f : map v ks ≡ map v js ++ v j ∷ [] = ap (λ l. map v l) e ∙ map-append v js (j ∷ []) in
    subst (λ (l : List Work). AllReady c l) (sym f) (ready_last c (map v js) (v j) h (p.0, p.1, q, s))

pub left_ready : (c : Claims) (ps qs : List ClaimPass) (p : ClaimPass) → ps ≡ qs ++ p ∷ []
    → All (λ p. IsPassOf c p × (pass_view p ≡ newcomer 1 c.count)) ps
    → All (λ p. IsPassOf c p × (pass_view p ≡ newcomer 1 c.count)) qs
    × (IsPassOf c p × (pass_view p ≡ newcomer 1 c.count))
left_ready c ps qs p e h = All-pop (λ p. IsPassOf c p × (pass_view p ≡ newcomer 1 c.count)) ps qs (Some p) e h
