-- Jobs that are taken apart, one by one.
use Rattle.std.proofs.Common.{◌≡◌, List, [], ◌∷◌, ◌++◌, length, map, refl, sym, ap, ◌∙◌, append_assoc, append-nil, arith}
use Rattle.std.specs.Prelude.{All}
use Rattle.std.proofs.lemmas.List.{length-map, map-append}
use Rattle.std.proofs.lemmas.List.Elements.{All-head, All-rest, All-same}
use Rattle.xet_claims.specs.declared.claims.ClaimPass.{ClaimPass}
use Rattle.xet_lane.specs.declared.joined.LaneEnd.{LaneEnd}
use Rattle.xet_lane.specs.Ends.{End, ended}
use Rattle.xet_lanes.specs.steps.Drawn.{Work, claims_of, ends_of}

abbrev claim_in : Work → ClaimPass
claim_in w = w.claim

abbrev end_in : Work → End
end_in w = record { steps = w.steps; short = w.short }

-- ---- one job more

pub claims_more : {J : Type 0} (v : J → Work) (js : List J) (j : J) (ps qs : List ClaimPass) → ps ≡ claims_of (map v js)
    → qs ≡ ps ++ (v j).claim ∷ [] → qs ≡ claims_of (map v (js ++ j ∷ []))
claims_more v js j ps qs h e =
    let f = ap (map claim_in) (map-append v js (j ∷ [])) ∙ map-append claim_in (map v js) (v j ∷ []) in
    e ∙ (ap (λ l. l ++ (v j).claim ∷ []) h ∙ sym f)

pub ends_more : {J : Type 0} (v : J → Work) (js : List J) (j : J) (es fs : List LaneEnd) (e : LaneEnd)
    → map ended es ≡ ends_of (map v js) → fs ≡ es ++ e ∷ [] → ended e ≡ end_in (v j)
    → map ended fs ≡ ends_of (map v (js ++ j ∷ []))
ends_more v js j es fs e h a s =
    let f = ap (map end_in) (map-append v js (j ∷ [])) ∙ map-append end_in (map v js) (v j ∷ []) in
    ap (map ended) a
    ∙ (map-append ended es (e ∷ [])
    ∙ (ap (λ l. l ++ ended e ∷ []) h ∙ (ap (λ x. map end_in (map v js) ++ x ∷ []) s ∙ sym f)))

-- ---- as many as jobs

pub claims_length : {J : Type 0} (v : J → Work) (js : List J) (ps : List ClaimPass) → ps ≡ claims_of (map v js)
    → length ps ≡ length js
claims_length v js ps e = ap length e ∙ (length-map (map v js) claim_in ∙ length-map js v)

pub ends_length : {J : Type 0} (v : J → Work) (js : List J) (es : List LaneEnd) → map ended es ≡ ends_of (map v js)
    → length es ≡ length js
ends_length v js es e = sym (length-map es ended) ∙ (ap length e ∙ (length-map (map v js) end_in ∙ length-map js v))

-- ---- the jobs that were taken, and those that are left

pub taken_more : {J : Type 0} (ys left rest all : List J) (j : J) → ys ++ left ≡ all → left ≡ j ∷ rest
    → (ys ++ j ∷ []) ++ rest ≡ all
taken_more ys left rest all j h e = append_assoc ys (j ∷ []) rest ∙ (ap (λ l. ys ++ l) (sym e) ∙ h)

nothing_left : {J : Type 0} (l : List J) → length l ≡ 0 → l ≡ []
nothing_left [] h = refl
nothing_left (x ∷ xs) h = absurd (omega arith)

pub all_taken : {J : Type 0} (ys left all : List J) → ys ++ left ≡ all → length left ≡ 0 → ys ≡ all
all_taken ys left all h e = sym (append-nil ys) ∙ (ap (λ l. ys ++ l) (sym (nothing_left left e)) ∙ h)

-- the next job has one part, and so have those that are left
pub one_taken : {J : Type 0} (v : J → Work) (ys left rest : List J) (j : J) (ps : List ClaimPass)
    → ps ≡ claims_of (map v ys) → All (λ (i : J). (v i).parts ≡ 1) left → left ≡ j ∷ rest
    → ((v j).parts ≡ 1) × All (λ (i : J). (v i).parts ≡ 1) rest
one_taken {J} v ys left rest j ps h o e =
    let P : J → Type 0 = λ (i : J). (v i).parts ≡ 1 in
    (All-head P j rest (All-same P (j ∷ rest) left (sym e) o), All-rest P j rest left e o)

-- ---- all of them

pub claims_all : {J : Type 0} (v : J → Work) (ys js : List J) (ps : List ClaimPass) → ps ≡ claims_of (map v ys) → ys ≡ js
    → ps ≡ claims_of (map v js)
claims_all v ys js ps h e = h ∙ ap (λ l. map claim_in (map v l)) e

pub ends_all : {J : Type 0} (v : J → Work) (ys js : List J) (es : List LaneEnd) → map ended es ≡ ends_of (map v ys)
    → ys ≡ js → map ended es ≡ ends_of (map v js)
ends_all v ys js es h e = h ∙ ap (λ l. map end_in (map v l)) e
