-- A pass as callers see it, and what some passes have together.
use Rattle.std.specs.Prelude.{ℕ, ◌≡◌, ◌+◌, ◌<◌, List, [], ◌∷◌, ◌++◌}
use Rattle.xet_claims.specs.declared.claims.Claims.{Claims}
use Rattle.xet_claims.specs.declared.claims.ClaimPass.{ClaimPass}
use Rattle.xet_claims.specs.declared.claim_rule.View.{View}
use Rattle.xet_claims.specs.ClaimViews.{mark_of, raised_of}

-- what the pass knows
abbrev pub pass_view : ClaimPass → View
pass_view p = p.seat.me.0

-- the pass is one of these claims' passes: it draws from their table, knows their count, and weighs something
abbrev pub IsPassOf : Claims → ClaimPass → Type 0
IsPassOf c p =
    (p.seat.table_id ≡ c.table.shared.table_id) × ((pass_view p).count ≡ c.count) × (0 < (pass_view p).weight)

-- it hasn't drawn None as often as it weighs: a pass of weight 1 hasn't drawn None
abbrev pub IsFresh : ClaimPass → Type 0
IsFresh p = (pass_view p).misses < (pass_view p).weight

-- how much the passes weigh together
abbrev pub weight_of : List ClaimPass → ℕ
weight_of [] = 0
weight_of (p ∷ ps) = (pass_view p).weight + weight_of ps

-- how often they drew None together
abbrev pub misses_of : List ClaimPass → ℕ
misses_of [] = 0
misses_of (p ∷ ps) = (pass_view p).misses + misses_of ps

-- the numbers that they drew, pass by pass
abbrev pub drawn_of : List ClaimPass → List ℕ
drawn_of [] = []
drawn_of (p ∷ ps) = (pass_view p).drawn ++ drawn_of ps

-- how many of the passes set the mark
abbrev pub raised_count : List ClaimPass → ℕ
raised_count [] = 0
raised_count (p ∷ ps) = raised_of (pass_view p) + raised_count ps

-- how many of the passes know that the mark was set
abbrev pub stopped_count : List ClaimPass → ℕ
stopped_count [] = 0
stopped_count (p ∷ ps) = mark_of (pass_view p) + stopped_count ps
