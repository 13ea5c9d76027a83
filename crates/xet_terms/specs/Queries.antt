-- The queries by which a range is asked for.
use Rattle.std.specs.Prelude.{ℕ, ◌≡◌, ◌-◌, ◌<◌, ◌≤◌, List, [], ◌∷◌}
use Rattle.xet_base.specs.declared.cas_types.FileRange.{FileRange}

-- nonempty queries, each starting where the one before it ends, none passing the end, each shorter than the bound
abbrev pub CutFrom : ℕ → ℕ → ℕ → List FileRange → Type 0
CutFrom place end bound [] = Unit {0}
CutFrom place end bound (q ∷ qs) =
    (q.start ≡ place) × (q.start < q.end) × (q.end ≤ end) × (q.end - q.start < bound) × CutFrom q.end end bound qs

-- where they end, the first starting at the given place
abbrev pub end_from : ℕ → List FileRange → ℕ
end_from place [] = place
end_from place (q ∷ qs) = end_from q.end qs
