-- One query more, where bytes are left.
use Rattle.std.proofs.Common.{◌≡◌, ℕ, ◌+◌, ◌<◌, Bool, true, false, cond, [], ◌∷◌, length, ◌∙◌, ap, min, max, arith, length-append}
use Rattle.xet_terms.specs.Managers.{IsManager, Manager, bounded, cut_end, scheduled, scheduled_end}
use Rattle.xet_terms.proofs.Managing.{scheduled_is}

-- where the queries end below the known end and the range's, one more ends past them
cut_past : (m : Manager) (size : ℕ) → IsManager m → scheduled_end m < min m.known_end m.range.end → scheduled_end m < cut_end m size
cut_past m size x below = go _
  where
    go : (b : Bool) → scheduled_end m < cond b m.range.end (min (bounded (scheduled_end m + max (min size m.greatest) m.least)) (min m.known_end m.range.end))
    go true = omega (arith, below)
    go false = omega (arith, below, x.least_some, x.range_fits)

-- so it is scheduled
pub schedules_one : (m : Manager) (size : ℕ) → IsManager m → scheduled_end m < min m.known_end m.range.end → length (scheduled m size) ≡ length m.queries + 1
schedules_one m size x below =
    ap length (scheduled_is m size (cut_past m size x below)) ∙ length-append m.queries (record { start = scheduled_end m; end = cut_end m size } ∷ [])
