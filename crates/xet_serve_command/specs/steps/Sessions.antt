-- What is printed of a session.
use Rattle.std.specs.Prelude.{ℕ, ◌≡◌, List, [], None, Some, Result, Ok, Err, unwrap_or}
use Rattle.xet_base.specs.Store.{Store}
use Rattle.xet_outside.specs.Told.{ClientTold, SinkTold, SourceTold}
use Rattle.xet_room.specs.declared.status.Status.{Status}
use Rattle.xet_room.specs.declared.status.Status.TheVariants as status
use Rattle.xet_room.specs.Inputs.{SomePrinted}
use Rattle.xet_room.specs.Outcome.{Finished, IsFlushed, IsUnfailed, TellsFault}
use Rattle.xet_room.specs.Texts.{line}
use Rattle.xet_serve.specs.declared.serve_error.ServeError.{ServeError}
use Rattle.xet_serve.specs.declared.serve_error.ServeError.TheVariants as serve_error

-- what a connection to this store tells, of which only the store is told
abbrev pub new_client : Store → ClientTold
new_client s = record {
  store = Some s;
  asked = None;
  said = None;
  served = None;
  faults = 0;
  expiries = 0;
  link = [];
}

-- the bytes that a source has left
abbrev pub left_of : SourceTold → List ℕ
left_of source = unwrap_or source.left []

-- what was printed of some texts, by their statuses; that it is flushed, and which call failed, by the status
pub record Printed (P : Status → List ℕ → Type 0) (before after : SinkTold) (end : Status) : Type 0 where
  pub printed : SomePrinted P before after end
  pub flushed : IsFlushed end after
  pub unfailed : IsUnfailed end before after
  pub short : TellsFault end before after

-- the text of a status alone was printed so
pub record LinePrinted (own : Status) (before after : SinkTold) (end : Status) : Type 0 where
  pub text : Finished (line own) own before after end
  pub flushed : IsFlushed end after
  pub unfailed : IsUnfailed end before after
  pub short : TellsFault end before after

-- the command ends with this status, and nothing more is printed
abbrev pub EndsAs : Status → SinkTold → SinkTold → Status → Type 0
EndsAs own before after end = (end ≡ own) × (after ≡ before)

-- how the command ends behind a session's answer
abbrev pub Ended : Result ℕ ServeError → SinkTold → SinkTold → Status → Type 0
Ended (Ok count) before after end = EndsAs status.Done before after end
Ended (Err serve_error.LineTooLong) before after end = EndsAs status.LineTooLong before after end
Ended (Err serve_error.WriteFault) before after end = EndsAs status.WriteFault before after end
Ended (Err (serve_error.ConfigurationError e)) before after end = LinePrinted (status.BadSettings e) before after end
Ended (Err _) before after end = EndsAs status.NoMemory before after end
