use Rattle.std.proofs.Common.{false, ◌≡◌, map}
use Rattle.xet_claims.specs.ClaimPasses.{IsFresh, IsPassOf, pass_view}
use Rattle.xet_lane.specs.Fetches.{ask_of}
use Rattle.xet_lanes.proofs.Draws.{Drawing}
use Rattle.xet_lanes.proofs.drawing.draw_all.Given as goal

abbrev pub invariant-loop : goal.invariant-loop
invariant-loop g l = record {
  same : l.lane.client.ghost_name ≡ l.initial.lane.client.ghost_name;
  of : IsPassOf l.shared.claims.now l.claim;
  fresh : IsFresh l.claim;
  weight : (pass_view l.claim).weight ≡ (pass_view l.initial.claim).weight;
  calm : (pass_view l.claim).raised ≡ false;
  parts : l.run.share.parts ≡ l.initial.run.share.parts;
  drawing : Drawing (map ask_of l.shared.fetches.now) (g.C.Client.told l.initial.lane.client.now)
      (g.C.Client.told l.lane.client.now) (pass_view l.claim).drawn l.lane.steps.items;
}
