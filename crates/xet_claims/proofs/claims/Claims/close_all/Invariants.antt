use Rattle.std.specs.Prelude.{All}
use Rattle.xet_claims.specs.ClaimPasses.{IsPassOf, pass_view}
use Rattle.xet_claims.proofs.Gathered.{Closing}
use Rattle.xet_claims.proofs.claims.Claims.close_all.Given as goal

abbrev pub invariant-loop-next : goal.invariant-loop-next
invariant-loop-next l = record {
  of : IsPassOf l.self l.whole;
  all : All (λ p. IsPassOf l.self p) l.passes.items;
  closing : Closing l.fn.passes.items l.passes.items (pass_view l.whole);
}

abbrev pub decreases-loop-next : goal.decreases-loop-next
decreases-loop-next l = goal.left-loop-next l
