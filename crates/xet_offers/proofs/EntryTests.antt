-- The entries of a xorb, whose ranges are tested one after another.
use Rattle.std.proofs.Common.{◌≡◌, ℕ, List, ◌∷◌, map, sym, ◌∙◌, ap, Some, None}
use Rattle.std.specs.Prelude.{option_map, position}
use Rattle.xet_base.specs.Lists.{first_some}
use Rattle.xet_outside.specs.declared.plan.FetchEntry.{FetchEntry}
use Rattle.xet_outside.specs.declared.plan.PlanXorb.{PlanXorb}
use Rattle.xet_outside.specs.Plan.{xorb_shape}
use Rattle.xet_error.specs.declared.error.Corruption.TheVariants.{Ranges}
use Rattle.xet_offers.specs.PlanChecks.{failed_ranges, unordered}
use Rattle.xet_offers.proofs.Lookups.{position-map}

-- the first entry whose ranges don't ascend fails the xorb, and a xorb without one passes
pub entries_fail : (x : PlanXorb) (xs : List PlanXorb) (k : ℕ) → Some k ≡ position (λ (e : FetchEntry). unordered 0 e.ranges) x.fetch → first_some (map failed_ranges (map xorb_shape (x ∷ xs))) ≡ Some (Ranges x.xorb k)
entries_fail x xs k h =
    let at : failed_ranges (xorb_shape x) ≡ Some (Ranges x.xorb k) =
    ap (λ f. option_map (λ i. Ranges x.xorb i) f) (position-map (λ (e : FetchEntry). e.ranges) (λ l. unordered 0 l) x.fetch ∙ sym h) in
    ap (λ f. first_some (f ∷ map failed_ranges (map xorb_shape xs))) at

pub entries_pass : (x : PlanXorb) (xs : List PlanXorb) → None ≡ position (λ (e : FetchEntry). unordered 0 e.ranges) x.fetch → first_some (map failed_ranges (map xorb_shape (x ∷ xs))) ≡ first_some (map failed_ranges (map xorb_shape xs))
entries_pass x xs h =
    let at : failed_ranges (xorb_shape x) ≡ None =
    ap (λ f. option_map (λ i. Ranges x.xorb i) f) (position-map (λ (e : FetchEntry). e.ranges) (λ l. unordered 0 l) x.fetch ∙ sym h) in
    ap (λ f. first_some (f ∷ map failed_ranges (map xorb_shape xs))) at
