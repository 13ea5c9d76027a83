-- The queries that a manager schedules have the least size at least, but for one up to the range's end.
use Rattle.std.proofs.Common.{◌≡◌, ℕ, ◌+◌, ◌-◌, ◌<◌, ◌≤◌, ◌^◌, min, Bool, true, false, cond, [], ◌∷◌, ◌++◌, refl, subst, arith, inl, inr, ◌⊎◌, ⊎_elim}
use Rattle.std.specs.Prelude.{All, Option, max, nat_le, nat_lt, length, ◌*◌, ◌&&◌}
use Rattle.std.proofs.lemmas.Bool.{cases_lt}
use Rattle.std.proofs.lemmas.List.Elements.{All-nil, All-push}
use Rattle.xet_base.specs.declared.cas_types.FileRange.{FileRange}
use Rattle.xet_base.specs.declared.item_id.UniqueID.{UniqueID}
use Rattle.xet_terms.specs.Managers.{Manager, begun, bounded, cut_at, cut_end, empty_manager, looked_ahead, scheduled, scheduled_end}
use Rattle.xet_ties.specs.Setup.{Setup}
use Rattle.xet_ties.specs.Ties.{IsLong}
use Rattle.xet_leader.specs.declared.leader.Job.{Job}
use Rattle.xet_leader.specs.Led.{IsManagerOf, setup_of_job}

-- while no end is known a query is cut at the range's end alone
cut_long : (least greatest known start size : ℕ) (range : FileRange) → range.end < 2 ^ 64 → known ≡ 2 ^ 64 - 1
    → (cut_at least greatest range known start size ≡ range.end)
    ⊎ (least ≤ cut_at least greatest range known start size - start)
cut_long least greatest known start size range fits open_still = go (nat_lt range.end (bounded (e + least)))
  where
    e : ℕ
    e = min (bounded (start + max (min size greatest) least)) (min known range.end)

    go : (b : Bool) → (cond b range.end e ≡ range.end) ⊎ (least ≤ cond b range.end e - start)
    go true = inl refl
    go false =
        ⊎_elim
        (λ (h : e < range.end). inr (omega (arith, h, fits, open_still)))
        (λ (h : range.end ≤ e). inl (omega (arith, h)))
        (cases_lt e range.end)

-- a manager that cuts the run's range
module _ (g : Setup) (m : Manager) (range : m.range ≡ g.range) (least : m.least ≡ g.least)
    (fits : m.range.end < 2 ^ 64) (open_still : m.known_end ≡ 2 ^ 64 - 1) where
  pub scheduled_long : (size : ℕ) → All (IsLong g) m.queries → All (IsLong g) (scheduled m size)
  scheduled_long size a = go (nat_lt (scheduled_end m) (cut_end m size))
    where
      q : FileRange
      q = record { start = scheduled_end m; end = cut_end m size }

      long : IsLong g q
      long =
          subst (λ (n : ℕ). (q.end ≡ g.range.end) ⊎ (n ≤ q.end - q.start)) least
          (subst (λ (r : FileRange). (q.end ≡ r.end) ⊎ (m.least ≤ q.end - q.start)) range
          (cut_long m.least m.greatest m.known_end (scheduled_end m) size m.range fits open_still))

      go : (b : Bool) → All (IsLong g) (cond b (m.queries ++ q ∷ []) m.queries)
      go true = All-push (IsLong g) m.queries q a long
      go false = a

-- one that looked ahead
pub looked_long : (g : Setup) (m : Manager) (policy : ℕ) → IsManagerOf g m → m.range.end < 2 ^ 64
    → m.known_end ≡ 2 ^ 64 - 1 → All (IsLong g) m.queries → All (IsLong g) (looked_ahead m policy).queries
looked_long g m policy is fits open_still a =
    go (nat_le m.known_end (scheduled_end m)) (nat_lt 0 (length m.waiting) && nat_le (max policy m.buffer) size)
  where
    size : ℕ
    size = scheduled_end m - m.handed_end

    next : All (IsLong g) (scheduled m (max policy m.buffer - size))
    next = scheduled_long g m is.range is.least fits open_still (max policy m.buffer - size) a

    go : (b c : Bool) → All (IsLong g) (cond b m
        (cond c m (record m { queries = scheduled m (max policy m.buffer - size) }))).queries
    go true c = a
    go false true = a
    go false false = next

-- one that has just begun
pub begun_long : (j : Job) (p : Option UniqueID) → j.byte_range.end < 2 ^ 64
    → All (IsLong (setup_of_job j)) (begun j.file_hash j.byte_range j.config p).queries
begun_long j p fits =
    scheduled_long (setup_of_job j) first refl refl fits refl (bounded (first.least * 2))
    (scheduled_long (setup_of_job j) none refl refl fits refl none.least (All-nil (IsLong (setup_of_job j))))
  where
    none : Manager
    none = empty_manager j.file_hash j.byte_range j.config p

    first : Manager
    first = record none { queries = scheduled none none.least }
