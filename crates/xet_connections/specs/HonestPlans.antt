-- The answers to queries are those of the store.
use Rattle.std.specs.Prelude.{List, [], ◌∷◌}
use Rattle.std.proofs.Props.{props}
use Rattle.xet_base.specs.Store.{Store}
use Rattle.xet_base.specs.declared.cas_types.FileRange.{FileRange}
use Rattle.xet_base.specs.declared.merklehash.MerkleHash.{MerkleHash}
use Rattle.xet_outside.specs.Plan.{Shape}
use Rattle.xet_outside.specs.Told.{IsHonest, Query}
use Rattle.xet_outside.specs.declared.plan.PlanAnswer.{PlanAnswer}
use Rattle.xet_outside.specs.declared.plan.PlanAnswer.TheVariants.{Found, PastEnd, NoFile}

-- each query has its answer, which is that of the store
abbrev pub PlansAreHonest : Store → List Query → List PlanAnswer → Type 0
PlansAreHonest s [] [] = Unit {0}
PlansAreHonest s [] (a ∷ rest) = ⊥
PlansAreHonest s (q ∷ qs) [] = ⊥
PlansAreHonest s (q ∷ qs) (a ∷ rest) = IsHonest s q.0 q.1 a × PlansAreHonest s qs rest

-- ---- each of these has at most one proof

Shape-set : IsSet Shape
Shape-set = Prim.hlevel props

IsHonest-prop : (s : Store) (f : MerkleHash) (q : FileRange) (a : PlanAnswer) → IsProp (IsHonest s f q a)
IsHonest-prop s f q (Found p) = Prim.hlevel (props, Shape-set)
IsHonest-prop s f q PastEnd = Prim.hlevel props
IsHonest-prop s f q NoFile = Prim.hlevel props

pub PlansAreHonest-prop : (s : Store) (qs : List Query) (answers : List PlanAnswer)
    → IsProp (PlansAreHonest s qs answers)
PlansAreHonest-prop s [] [] = Prim.hlevel props
PlansAreHonest-prop s [] (a ∷ rest) = Prim.hlevel props
PlansAreHonest-prop s (q ∷ qs) [] = Prim.hlevel props
PlansAreHonest-prop s (q ∷ qs) (a ∷ rest) = Prim.hlevel (
  props,
  IsHonest-prop s q.0 q.1 a,
  PlansAreHonest-prop s qs rest,
)
