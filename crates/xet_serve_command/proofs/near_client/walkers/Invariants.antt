use Rattle.std.proofs.Common.{◌≡◌, ◌-◌, ◌≤◌}
use Rattle.std.specs.Prelude.{All, vec_capacity, vec_len}
use Rattle.xet_serve_command.proofs.near_client.walkers.Given as goal

abbrev pub invariant-taken : goal.invariant-taken
invariant-taken l = record {
  room : l.count ≤ vec_capacity l.made;
  few : vec_len l.made ≤ l.count;
  same : All (λ c. c.store.now ≡ l.store) l.made.items;
}

abbrev pub decreases-taken : goal.decreases-taken
decreases-taken l = l.count - vec_len l.made
