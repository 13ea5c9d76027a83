-- What counting the expired answers of a round does to a leader.
use Rattle.std.specs.Prelude.{ℕ, ◌≡◌, ◌⊎◌, ◌+◌, ◌==◌, ◌&&◌, ◌||◌, Bool, true, false, cond, nat_le, nat_lt, slice_get}
use Rattle.std.specs.Prelude.{slice_index, List, [], ◌∷◌, ◌++◌, length, Option, None, Some, Result, OnOk, IfErr}
use Rattle.std.specs.List.{list_any}
use Rattle.std.specs.Vec.{with_item}
use Rattle.xet_error.specs.declared.error.FileReconstructionError.{FileReconstructionError}
use Rattle.xet_error.specs.declared.error.FileReconstructionError.TheVariants as error
use Rattle.xet_ties.specs.Recordings.{Place}
use Rattle.xet_leader.specs.ByNumber.{change_plan, plan_index}
use Rattle.xet_leader.specs.declared.leader.LedPlan.{LedPlan}
use Rattle.xet_leader.specs.Led.{Led}

-- ---- one block

-- the plan whose block of this number expired once more
abbrev pub one_more : ℕ → LedPlan → LedPlan
one_more k l = cond (nat_lt k (length l.tries.items))
    (record l { tries = with_item l.tries k (slice_index l.tries.items k + 1) }) l

-- its tries are used up by that
abbrev pub spends_in : ℕ → ℕ → LedPlan → Bool
spends_in tries k l = nat_lt k (length l.tries.items) && nat_le tries (slice_index l.tries.items k + 1)

abbrev pub spends_of : ℕ → Place → Option LedPlan → Bool
spends_of tries c None = false
spends_of tries c (Some l) = (l.number == c.0) && spends_in tries c.1 l

-- the plans after the block at a place expired once more, and whether its tries are used up by that
abbrev pub counted_one : Place → List LedPlan → List LedPlan
counted_one c ls = change_plan c.0 (one_more c.1) ls

abbrev pub spends_one : ℕ → Place → List LedPlan → Bool
spends_one tries c ls = spends_of tries c (slice_get ls (plan_index ls c.0))

-- one block was counted, and has tries left; or it has none
pub record CountOne (tries : ℕ) (c : Place) (ls ks : List LedPlan)
    (answer : Result (Unit {0}) FileReconstructionError) : Type 0 where
  pub counted : OnOk answer (ks ≡ counted_one c ls)
  pub left : OnOk answer (spends_one tries c ls ≡ false)
  pub spent : IfErr answer (λ e. (e ≡ error.UrlExpired) × (spends_one tries c ls ≡ true))

-- ---- all blocks of a round

abbrev pub counted : List Place → List LedPlan → List LedPlan
counted [] ls = ls
counted (c ∷ cs) ls = counted cs (counted_one c ls)

abbrev pub spends : ℕ → List Place → List LedPlan → Bool
spends tries [] ls = false
spends tries (c ∷ cs) ls = spends_one tries c ls || spends tries cs (counted_one c ls)

-- the numbers of the stale plans with this one, each once
abbrev pub with_stale : ℕ → List ℕ → List ℕ
with_stale p ps = cond (list_any (λ q. p == q) ps) ps (ps ++ p ∷ [])

abbrev pub stale_after : List Place → List ℕ → List ℕ
stale_after [] ps = ps
stale_after (c ∷ cs) ps = stale_after cs (with_stale c.0 ps)

-- the tries of one are used up, or memory was wanting
abbrev pub CountFails : ℕ → List Place → List LedPlan → FileReconstructionError → Type 0
CountFails tries cs ls e = (e ≡ error.OutOfMemory) ⊎ ((e ≡ error.UrlExpired) × (spends tries cs ls ≡ true))

-- these plans, of which some are stale, became those
pub record CountAll (tries : ℕ) (cs : List Place) (ls ks : List LedPlan) (ps qs : List ℕ)
    (answer : Result (Unit {0}) FileReconstructionError) : Type 0 where
  pub counted_are : OnOk answer (ks ≡ counted cs ls)
  pub stale_are : OnOk answer (qs ≡ stale_after cs ps)
  pub left : OnOk answer (spends tries cs ls ≡ false)
  pub err : IfErr answer (CountFails tries cs ls)

-- each block at these places was counted and has tries left, and these plans are stale
pub record CountedLate (tries : ℕ) (cs : List Place) (l k : Led) (stale : List ℕ) : Type 0 where
  pub led : k ≡ record l { plans = counted cs l.plans }
  pub stale_is : stale ≡ stale_after cs []
  pub left : spends tries cs l.plans ≡ false
