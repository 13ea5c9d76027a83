use Rattle.std.proofs.Common.{◌≡◌, ◌-◌, ◌≤◌, map}
use Rattle.std.specs.Prelude.{replicate, vec_capacity, vec_len}
use Rattle.xet_serve_command.specs.steps.Sessions.{new_client}
use Rattle.xet_serve_command.proofs.connections.connect.Given as goal

abbrev pub invariant-taken : goal.invariant-taken
invariant-taken l = record {
  room : l.count ≤ vec_capacity l.clients;
  few : vec_len l.clients ≤ l.count;
  told : map (λ c. new_client c.store.now) l.clients.items
      ≡ replicate (vec_len l.clients) (new_client l.store);
}

abbrev pub decreases-taken : goal.decreases-taken
decreases-taken l = l.count - vec_len l.clients
