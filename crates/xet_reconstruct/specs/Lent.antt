-- What the arguments of a reconstruction tell.
use Rattle.std.specs.Prelude.{List, None, map}
use Rattle.xet_outside.specs.Told.{CacheTold, ClientTold, SignalTold, SinkTold}
use Rattle.xet_events.specs.Limits.{LimitTold}
use Rattle.xet_ties.specs.Setup.{RunTold}

-- a source of limits that tells nothing
abbrev pub no_limits : LimitTold
no_limits = record { fixed = None; most = None; limits = None }

-- what these arguments tell, where the source of limits isn't one of them
abbrev pub lent_of : {C K X S : Type 0} → (C → ClientTold) → (K → CacheTold) → (X → SignalTold) → (S → SinkTold)
    → List C → K → X → S → RunTold
lent_of c k x s clients cache signal sink = record {
  clients = map c clients;
  cache = k cache;
  signal = x signal;
  sink = s sink;
  limits = no_limits;
}
