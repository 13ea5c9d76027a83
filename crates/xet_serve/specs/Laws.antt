-- What a session says where no connection failed and no URL expired.
use Rattle.std.specs.Prelude.{ℕ, ◌≡◌, ◌<◌, List}
use Rattle.xet_base.specs.Store.{Store}
use Rattle.xet_outside.specs.Told.{ClientTold, Took, TookPrefix}
use Rattle.xet_ties.specs.Causes.{NoneAtEnd, total_expiries}
use Rattle.xet_serve.specs.Replies.{replies}
use Rattle.xet_serve.specs.Sessions.{NoFaultsAtEnd, Served, ServedOver, ServedPart, SessionTold, total_faults}

-- no count of the connections rose, and none stands at its last value
pub record AreCalm (before after : List ClientTold) : Type 0 where
  pub faults : NoFaultsAtEnd after
  pub expiries : NoneAtEnd after
  pub same_faults : total_faults after ≡ total_faults before
  pub same_expiries : total_expiries after ≡ total_expiries before

-- then the sink took the replies to all that the source had left, exactly
abbrev pub CalmSessionsReply : Type 0
CalmSessionsReply = (s : Store) (tries : ℕ) (before after : SessionTold) (all : List ℕ) (count : ℕ) → 0 < tries
    → AreCalm before.clients after.clients → Served s tries before after all count
    → Took before.sink.took after.sink.took (replies s all)

-- so it did with a line that is too long
abbrev pub CalmSessionsEnd : Type 0
CalmSessionsEnd = (s : Store) (tries : ℕ) (before after : SessionTold) (all : List ℕ) → 0 < tries
    → AreCalm before.clients after.clients → ServedOver s tries before after all
    → Took before.sink.took after.sink.took (replies s all)

-- and with any error it took a prefix of them
abbrev pub CalmSessionsBegin : Type 0
CalmSessionsBegin = (s : Store) (tries : ℕ) (before after : SessionTold) (all : List ℕ) → 0 < tries
    → AreCalm before.clients after.clients → ServedPart s tries before after all
    → TookPrefix before.sink.took after.sink.took (replies s all)
