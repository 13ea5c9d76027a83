-- The fetches of a round, by what drawing them and the writing beside them came to.
use Rattle.std.proofs.Common.{◌≡◌, ℕ, ◌<◌, min, List, [], ◌∷◌, length, sym, subst, arith, None, Ok}
use Rattle.std.specs.Prelude.{map}
use Rattle.xet_outside.specs.Told.{ClientTold, SinkTold}
use Rattle.xet_writers.specs.Calls.{closed_by}
use Rattle.xet_writers.specs.Queues.{ready_bytes}
use Rattle.xet_writers.specs.Sequential.{WindowCall, told_of}
use Rattle.xet_ties.specs.Setup.{most_lanes}
use Rattle.xet_lane.specs.declared.joined.Joined.{Joined}
use Rattle.xet_lane.specs.declared.lane.Fetch.{Fetch}
use Rattle.xet_lane.specs.Fetches.{ask_of}
use Rattle.xet_lanes.specs.Rounds.{RoundCall, RoundTold}
use Rattle.xet_leader.specs.declared.missing_blocks.BlockAt.{BlockAt}
use Rattle.xet_leader.specs.Fetching.{AreFetches}
use Rattle.xet_leader.specs.Led.{Led}
use Rattle.xet_turns.specs.RoundCalls.{FetchTurn}

-- a connection that tells is lent
pub fetching_some : {C : Type 0} (told : C → ClientTold) (cs : List C) → 0 < length (map told cs) → 0 < length cs
fetching_some told [] h = absurd (omega (arith, h))
fetching_some told (c ∷ cs) h = omega arith

-- lanes drew them, and what was ready was written
pub fetched_beside : {S : Type 0} (told : S → SinkTold) (l : Led) (cs : List BlockAt) (made asked : List Fetch)
    (a z : RoundTold S) (j : Joined) (lanes : ℕ) → asked ≡ made → AreFetches l.plans l.fetches cs made
    → RoundCall told (map ask_of asked) a z (Ok j)
    → (closed_by (told_of a.writer) ≡ None
    → WindowCall (told a.writer.sink) (told z.writer.sink) (ready_bytes a.writer.queue) j.wrote)
    → length j.ends.items ≡ min lanes most_lanes → FetchTurn told l cs a z (Ok j)
fetched_beside told l cs made asked a z j lanes same are call window few = record {
  ok = record {
    asked = asked;
    made = subst (AreFetches l.plans l.fetches cs) (sym same) are;
    wrote = call.wrote;
    window = window;
    drew = call.drew;
    lanes = omega (arith, few);
  };
  err = tt;
}
