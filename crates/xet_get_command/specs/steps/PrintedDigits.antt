-- What the functions that print the digits of a range say.
use Rattle.std.specs.Prelude.{ℕ, ◌≡◌, ◌⊎◌, ◌≤◌, List, [], length, take, Option, None, Some, IfSome, IfOk, IfErr, OnOk}
use Rattle.std.specs.Prelude.{Result, Ok, Err}
use Rattle.std.specs.Result.{result_ok}
use Rattle.hex.specs.Hex.{encode_lower}
use Rattle.xet_base.specs.Store.{Store}
use Rattle.xet_outside.specs.declared.sink.SinkError.TheVariants.{Failed}
use Rattle.xet_outside.specs.Told.{CacheTold, ClientTold, Rose, SinkTold, Took, TookPrefix}
use Rattle.xet_sinks.specs.HexText.{HexText}
use Rattle.xet_store.specs.Taps.{TapTold}
use Rattle.xet_error.specs.declared.error.FileReconstructionError.{FileReconstructionError}
use Rattle.xet_error.specs.declared.error.FileReconstructionError.TheVariants as error
use Rattle.xet_error.specs.declared.error.Setting.{Setting}
use Rattle.xet_error.specs.Errors.{corruption_number}
use Rattle.xet_blocks.specs.ServedChunks.{AllServed}
use Rattle.xet_reconstruct.specs.Lent.{no_limits}
use Rattle.xet_ties.specs.LegalWords.{IsExact}
use Rattle.xet_ties.specs.RunCalls.{Unfailed}
use Rattle.xet_ties.specs.Setup.{RunTold}
use Rattle.xet_get_command.specs.declared.digits.Printed.{Printed}
use Rattle.xet_get_command.specs.declared.digits.Printed.TheVariants.{All as Whole, NoFile, Part, Stopped}
use Rattle.xet_get_command.specs.declared.digits.Printed.TheVariants.{BadBlock, BadSettings}
use Rattle.xet_get_command.specs.declared.wanted.Wanted.{Wanted}
use Rattle.xet_room.specs.declared.status.Status.{Status}
use Rattle.xet_room.specs.declared.status.Status.TheVariants as status
use Rattle.xet_get_command.specs.Taps.{FromTaps, LanesHonest, TapsGoOn, all_passed, lane_taps}
use Rattle.xet_get_command.specs.Wanted.{IsFound, IsMissing, unmet_setting, wanted_bytes, wanted_setup}

-- what the arguments of a run tell that no signal stops
abbrev pub told_of : List ClientTold → CacheTold → SinkTold → RunTold
told_of cs k s =
    record { clients = cs; cache = k; signal = record { asks = None; yes = 0 }; sink = s; limits = no_limits }

-- ---- a run

-- the cause of each error of a run over connections to a valid store behind taps, where `H` says that these are honest
abbrev pub TapCause : Store → Wanted → Type 0 → SinkTold → SinkTold → FileReconstructionError → Type 0
TapCause s q H b n error.OutOfMemory = Unit {0}
TapCause s q H b n error.ClientError = ⊥
TapCause s q H b n error.FileNotFound = H → IsMissing s q
TapCause s q H b n error.UrlExpired = ⊥
TapCause s q H b n error.IoError = Rose b.faults n.faults
TapCause s q H b n (error.CorruptedReconstruction k) = H → ⊥
TapCause s q H b n (error.ConfigurationError e) = unmet_setting q ≡ Some e
TapCause s q H b n error.Cancelled = ⊥
TapCause s q H b n (error.InternalWriterError w) = ⊥

-- the answer of a run whose setting fails: it, or want of memory before
abbrev pub IsRefusal : Setting → Result ℕ FileReconstructionError → Type 0
IsRefusal e answer = (answer ≡ Err (error.ConfigurationError e)) ⊎ (answer ≡ Err error.OutOfMemory)

-- the status of a text that the bytes of a run with this answer may stand in
abbrev pub status_of_answer : Result ℕ FileReconstructionError → Status
status_of_answer (Ok k) = status.Done
status_of_answer (Err error.OutOfMemory) = status.NoMemory
status_of_answer (Err error.ClientError) = status.NoMemory
status_of_answer (Err error.FileNotFound) = status.NotFound
status_of_answer (Err error.UrlExpired) = status.NoMemory
status_of_answer (Err error.IoError) = status.NoMemory
status_of_answer (Err (error.CorruptedReconstruction c)) = status.BadBlock (corruption_number c)
status_of_answer (Err (error.ConfigurationError e)) = status.BadSettings e
status_of_answer (Err error.Cancelled) = status.NoMemory
status_of_answer (Err (error.InternalWriterError w)) = status.NoMemory

-- on Ok the writer took so many bytes
abbrev pub CountsOk : SinkTold → SinkTold → Result ℕ FileReconstructionError → Type 0
CountsOk b n answer = IfOk answer (λ k. (bytes : List ℕ) × Took b.took n.took bytes × (k ≡ length bytes))

-- the writer took these bytes, of which this holds at that status, and as many as were counted
pub record TookMade (P : Status → List ℕ → Type 0) (b n : SinkTold) (status : Status) (count : Option ℕ) : Type 0 where
  pub bytes : List ℕ
  pub took : Took b.took n.took bytes
  pub total : IfSome count (λ k. k ≡ length bytes)
  pub from : P status bytes

-- what a run wrote: bytes of which this holds, or it holds of any, since nothing is told
abbrev pub Wrote : (Status → List ℕ → Type 0) → SinkTold → SinkTold → Status → Option ℕ → Type 0
Wrote P b n status count = TookMade P b n status count ⊎ ((status : Status) (bytes : List ℕ) → P status bytes)

-- each chunk with a byte in the window passed a tap
abbrev pub AllPassed : Store → Wanted → List TapTold → List TapTold → Type 0
AllPassed s q ts us = IfSome (all_passed (lane_taps q ts) (lane_taps q us)) (AllServed s q.file q.range)

-- a run over connections to a valid store behind taps
pub record Tapped (s : Store) (q : Wanted) (ts us : List TapTold) (b n : SinkTold)
    (answer : Result ℕ FileReconstructionError) : Type 0 where
  pub exact : LanesHonest q ts → IfOk answer (IsExact s (wanted_setup q) b n)
  pub prefix : LanesHonest q ts → TookPrefix b.took n.took (wanted_bytes s q)
  pub cause : IfErr answer (TapCause s q (LanesHonest q ts) b n)
  pub settings : (e : Setting) → unmet_setting q ≡ Some e → IsRefusal e answer × (n.took ≡ b.took)
  pub chunks : LanesHonest q ts → OnOk answer (AllPassed s q ts us)
  pub counts : CountsOk b n answer
  pub any : Wrote (FromTaps s q ts us) b n (status_of_answer answer) (result_ok answer)
  pub go_on : TapsGoOn q ts us
  pub faults : b.faults ≤ n.faults
  pub unfailed : Unfailed b.faults n.faults answer
  pub link : n.link ≡ b.link

-- ---- how far the bytes were printed

-- what a writer took in a run over the store, where the taps are honest
abbrev pub RanAs : Store → Wanted → SinkTold → SinkTold → Printed → Type 0
RanAs s q b n (Whole k) = IsExact s (wanted_setup q) b n k
RanAs s q b n NoFile = IsMissing s q × Took b.took n.took []
RanAs s q b n Part = TookPrefix b.took n.took (wanted_bytes s q)
RanAs s q b n (Stopped e) = (e ≡ Failed → Rose b.faults n.faults) × TookPrefix b.took n.took (wanted_bytes s q)
RanAs s q b n (BadBlock k) = ⊥
RanAs s q b n (BadSettings e) = Unit {0}

-- the number of all bytes
abbrev pub CountsAs : Printed → List ℕ → Type 0
CountsAs (Whole k) p = k ≡ length p
CountsAs _ p = Unit {0}

-- the output failed only where its faults rose
abbrev pub StopsAs : Printed → SinkTold → SinkTold → Type 0
StopsAs (Stopped e) b n = e ≡ Failed → Rose b.faults n.faults
StopsAs _ b n = Unit {0}

-- no call of the output failed, unless it takes no more or memory ended
abbrev pub UnfailedAs : Printed → SinkTold → SinkTold → Type 0
UnfailedAs Part b n = Unit {0}
UnfailedAs (Stopped e) b n = Unit {0}
UnfailedAs _ b n = n.faults ≡ b.faults

-- the settings can be met, or this one fails first
abbrev pub SettingsAs : Wanted → Printed → Type 0
SettingsAs q (Whole k) = unmet_setting q ≡ None
SettingsAs q NoFile = unmet_setting q ≡ None
SettingsAs q Part = Unit {0}
SettingsAs q (Stopped e) = Unit {0}
SettingsAs q (BadBlock k) = unmet_setting q ≡ None
SettingsAs q (BadSettings e) = unmet_setting q ≡ Some e

-- the status of a text that the bytes may stand in
abbrev pub status_of_printed : Printed → Status
status_of_printed (Whole k) = status.Done
status_of_printed NoFile = status.NotFound
status_of_printed Part = status.NoMemory
status_of_printed (Stopped e) = status.NoMemory
status_of_printed (BadBlock k) = status.BadBlock k
status_of_printed (BadSettings e) = status.BadSettings e

-- how many bytes, where all were printed
abbrev pub count_of : Printed → Option ℕ
count_of (Whole k) = Some k
count_of _ = None

-- where all was printed, so many bytes
abbrev pub CountedAs : SinkTold → SinkTold → Printed → Type 0
CountedAs b n (Whole k) = (bytes : List ℕ) × Took b.took n.took bytes × (k ≡ length bytes)
CountedAs b n _ = Unit {0}

-- where a setting fails, nothing was taken
abbrev pub NothingAs : SinkTold → SinkTold → Printed → Type 0
NothingAs b n (BadSettings e) = Took b.took n.took []
NothingAs b n _ = Unit {0}

-- where all was printed, each chunk with a byte in the window passed the tap
abbrev pub PassedAs : Store → Wanted → List TapTold → List TapTold → Printed → Type 0
PassedAs s q ts us (Whole k) = AllPassed s q ts us
PassedAs s q ts us _ = Unit {0}

-- a run, with how far the bytes were printed
pub record Ran (s : Store) (q : Wanted) (ts us : List TapTold) (b n : SinkTold) (answer : Printed) : Type 0 where
  pub bytes : LanesHonest q ts → RanAs s q b n answer
  pub settings : SettingsAs q answer
  pub nothing : NothingAs b n answer
  pub counts : CountedAs b n answer
  pub stops : StopsAs answer b n
  pub any : Wrote (FromTaps s q ts us) b n (status_of_printed answer) (count_of answer)
  pub chunks : LanesHonest q ts → PassedAs s q ts us answer
  pub go_on : TapsGoOn q ts us
  pub faults : b.faults ≤ n.faults
  pub unfailed : UnfailedAs answer b n
  pub link : n.link ≡ b.link

-- unless the sink below stopped, no digit is missing there
abbrev pub WholeText : Option (List ℕ) → Option (List ℕ) → Option (List ℕ) → Printed → Type 0
WholeText start inner took (Stopped e) = Unit {0}
WholeText start inner took _ = HexText start inner took

-- a run through a sink of digits, and a flush
pub record Driven (s : Store) (q : Wanted) (ts us : List TapTold) (b n : SinkTold)
    (start inner : Option (List ℕ)) (answer : Printed) : Type 0 where
  pub ran : Ran s q ts us b n answer
  pub text : WholeText start inner n.took answer

-- ---- digits

-- the digits of some first bytes were taken
pub record TookDigits (before now : Option (List ℕ)) (bytes : List ℕ) : Type 0 where
  pub count : ℕ
  pub took : Took before now (encode_lower (take count bytes))

-- the digits that were printed, where the taps are honest
abbrev pub DigitsAs : Store → Wanted → SinkTold → SinkTold → Printed → Type 0
DigitsAs s q b n (Whole k) =
    IsFound s q × Took b.took n.took (encode_lower (wanted_bytes s q)) × (k ≡ length (wanted_bytes s q))
DigitsAs s q b n NoFile = IsMissing s q × Took b.took n.took []
DigitsAs s q b n Part = TookDigits b.took n.took (wanted_bytes s q)
DigitsAs s q b n (Stopped e) =
    (e ≡ Failed → Rose b.faults n.faults) × TookPrefix b.took n.took (encode_lower (wanted_bytes s q))
DigitsAs s q b n (BadBlock k) = ⊥
DigitsAs s q b n (BadSettings e) = Unit {0}

-- and that the count of faults doesn't fall
pub record DigitsOf (s : Store) (q : Wanted) (b n : SinkTold) (answer : Printed) : Type 0 where
  pub digits : DigitsAs s q b n answer
  pub faults : b.faults ≤ n.faults

-- the digits of some bytes, or, where the output stopped, a prefix of them
abbrev pub TookAs : Printed → SinkTold → SinkTold → List ℕ → Type 0
TookAs (Stopped e) b n p = TookPrefix b.took n.took (encode_lower p)
TookAs _ b n p = Took b.took n.took (encode_lower p)

-- the digits that were printed over any taps
pub record AnyDigits (P : Status → List ℕ → Type 0) (b n : SinkTold) (answer : Printed) : Type 0 where
  pub bytes : List ℕ
  pub took : TookAs answer b n bytes
  pub count : CountsAs answer bytes
  pub from : P (status_of_printed answer) bytes

-- the digits that were printed from blocks that the taps handed on
pub record DigitsBehind (s : Store) (q : Wanted) (ts us : List TapTold) (b n : SinkTold)
    (answer : Printed) : Type 0 where
  pub digits : LanesHonest q ts → DigitsOf s q b n answer
  pub settings : SettingsAs q answer
  pub nothing : NothingAs b n answer
  pub stops : StopsAs answer b n
  pub any : AnyDigits (FromTaps s q ts us) b n answer
  pub chunks : LanesHonest q ts → PassedAs s q ts us answer
  pub go_on : TapsGoOn q ts us
  pub faults : b.faults ≤ n.faults
  pub unfailed : UnfailedAs answer b n
