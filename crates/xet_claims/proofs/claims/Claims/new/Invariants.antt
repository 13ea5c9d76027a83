use Rattle.std.proofs.Common.{◌≡◌, ◌+◌, ◌≤◌, length}
use Rattle.std.specs.Prelude.{All}
use Rattle.xet_claims.specs.ClaimViews.{newcomer}
use Rattle.xet_claims.specs.ClaimPasses.{IsPassOf, pass_view}
use Rattle.xet_claims.proofs.claims.Claims.new.Given as goal

abbrev pub invariant-loop-left : goal.invariant-loop-left
invariant-loop-left l = record {
  some : 1 ≤ l.left;
  len : length l.all.items + l.left ≡ l.passes;
  of : IsPassOf l.claims l.first;
  view : pass_view l.first ≡ newcomer l.left l.count;
  all : All (λ p. IsPassOf l.claims p × (pass_view p ≡ newcomer 1 l.count)) l.all.items;
}

abbrev pub decreases-loop-left : goal.decreases-loop-left
decreases-loop-left l = l.left
