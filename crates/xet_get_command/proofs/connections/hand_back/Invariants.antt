use Rattle.std.proofs.Common.{◌≡◌, ◌+◌, ◌≤◌, ◌++◌, map}
use Rattle.std.specs.Prelude.{reverse, vec_capacity, vec_len}
use Rattle.xet_get_command.proofs.connections.hand_back.Given as goal

abbrev pub invariant-loop-client : goal.invariant-loop-client
invariant-loop-client g l = record {
  room : vec_len l.clients + vec_len l.taps ≤ vec_capacity l.taps;
  joined : map (λ c. c.tap) l.clients.items ++ reverse l.taps.items
      ≡ map (λ c. c.tap) l.fn.clients.items ++ reverse l.fn.taps.items;
}

abbrev pub decreases-loop-client : goal.decreases-loop-client
decreases-loop-client g l = vec_len l.clients
