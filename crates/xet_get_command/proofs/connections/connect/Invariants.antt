use Rattle.std.proofs.Common.{◌≡◌, ◌+◌, ◌-◌, ◌≤◌, ◌++◌, length, map}
use Rattle.std.specs.Prelude.{All, reverse, vec_capacity, vec_len}
use Rattle.xet_get_command.specs.steps.OwnTaps.{behind_own}
use Rattle.xet_get_command.specs.steps.TapRuns.{IsNew}
use Rattle.xet_get_command.proofs.connections.connect.Given as goal

abbrev pub invariant-taken : goal.invariant-taken
invariant-taken g l =
    let told = g.T.Tap.told in
    record {
      room : l.lanes ≤ vec_capacity l.clients;
      few : vec_len l.clients ≤ l.lanes;
      all : length l.clients.items + length l.taps.items ≡ length l.fn.taps.items;
      capacity : vec_capacity l.taps ≡ vec_capacity l.fn.taps;
      joined : map (λ c. c.tap) l.clients.items ++ reverse l.taps.items ≡ l.fn.taps.items;
      new : All (λ c. IsNew l.store (told c.tap) (behind_own c.inner.store.now c.log (told c.start.value) (told c.tap)))
          l.clients.items;
    }

abbrev pub decreases-taken : goal.decreases-taken
decreases-taken g l = l.lanes - vec_len l.clients
