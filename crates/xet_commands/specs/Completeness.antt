-- What the program answers where nothing that it is given fails.
use Rattle.std.specs.Prelude.{ℕ, ◌≡◌, ◌⊎◌, ◌<◌, ◌≤◌, true, false, All, List, Option, Some, None, length}
use Rattle.xet_base.specs.Store.{Store}
use Rattle.xet_document.specs.Document.{HasStore, NoStore}
use Rattle.xet_outside.specs.Told.{Rose}
use Rattle.xet_room.specs.declared.status.Status.{Status}
use Rattle.xet_room.specs.declared.status.Status.TheVariants.{Done, BadWords, BadStore, BadScript, NotFound, NoMemory}
use Rattle.xet_room.specs.declared.status.Status.TheVariants.{TooLong, BadSettings}
use Rattle.xet_room.specs.Ends.{Told}
use Rattle.xet_room.specs.Inputs.{Prints}
use Rattle.xet_room.specs.Texts.{number_of}
use Rattle.xet_track.specs.Texts.{track_reads}
use Rattle.xet_get_command.specs.declared.wanted.Wanted.{Wanted}
use Rattle.xet_get_command.specs.Wanted.{IsFound, IsMissing, unmet_setting}
use Rattle.xet_bench_command.specs.Bench.{end_by, unmet_bench}
use Rattle.xet_audit_command.specs.Audit.{AuditPrints}
use Rattle.xet_compact_command.specs.Compact.{CompactPrints}
use Rattle.xet_mirror_command.specs.Mirror.{MirrorPrints}
use Rattle.xet_resume_command.specs.Resume.{ResumePrints}
use Rattle.xet_serve_command.specs.Serve.{ServePrints}
use Rattle.xet_commands.specs.declared.commands.Command.{Command}
use Rattle.xet_commands.specs.declared.commands.Command.TheVariants as command
use Rattle.xet_commands.specs.Commands.{Answers, command_of}

-- nothing fails: the input tells its bytes, which are these; no count of faults of input or output rose; and each tap
-- hands each block on as it came
pub record NothingFails (text : List ℕ) (before after : Told) : Type 0 where
  pub input : before.source.left ≡ Some text
  pub reads : Rose before.source.faults after.source.faults → ⊥
  pub writes : Rose before.sink.faults after.sink.faults → ⊥
  pub taps : All (λ t. t.honest ≡ true) before.taps

-- the text is within the limit and a document of this store
pub record IsDocument (limit : ℕ) (text : List ℕ) (store : Store) : Type 0 where
  pub short : length text ≤ limit
  pub is : HasStore text store

-- when `get` ends with a status, by the text alone
abbrev pub GetBy : ℕ → Wanted → List ℕ → Status → Type 0
GetBy limit wanted text TooLong = limit < length text
GetBy limit wanted text BadStore = (length text ≤ limit) × NoStore text
GetBy limit wanted text (BadSettings e) =
    (store : Store) × IsDocument limit text store × (unmet_setting wanted ≡ Some e)
GetBy limit wanted text NotFound =
    (store : Store) × IsDocument limit text store × (unmet_setting wanted ≡ None) × IsMissing store wanted
GetBy limit wanted text Done =
    (store : Store) × IsDocument limit text store × (unmet_setting wanted ≡ None) × IsFound store wanted
GetBy limit wanted text _ = ⊥

-- and `track`
abbrev pub TrackBy : ℕ → List ℕ → Status → Type 0
TrackBy limit text TooLong = limit < length text
TrackBy limit text BadScript = (length text ≤ limit) × (track_reads text ≡ false)
TrackBy limit text Done = (length text ≤ limit) × (track_reads text ≡ true)
TrackBy limit text _ = ⊥

-- and a command over an input, by what it has to print: 8 where the text is longer than the limit, else a status with
-- which something is to be printed
abbrev pub InputBy : Prints → ℕ → List ℕ → Status → Type 0
InputBy P limit text status =
    ((limit < length text) × (status ≡ TooLong)) ⊎ ((whole : List ℕ) × (length text ≤ limit) × P text status whole)

-- and any words, by the command that they spell
abbrev pub StatusBy : ℕ → Option Command → List ℕ → Status → Type 0
StatusBy limit (Some (command.Get wanted)) text status = GetBy limit wanted text status
StatusBy limit (Some (command.Bench wanted)) text status = status ≡ end_by (unmet_bench wanted)
StatusBy limit (Some (command.Roundtrip size)) text status = status ≡ Done
StatusBy limit (Some command.Track) text status = TrackBy limit text status
StatusBy limit (Some (command.Audit hashes)) text status = InputBy (AuditPrints hashes) limit text status
StatusBy limit (Some command.Compact) text status = InputBy CompactPrints limit text status
StatusBy limit (Some (command.Mirror verify)) text status = InputBy (MirrorPrints verify) limit text status
StatusBy limit (Some (command.Resume wanted)) text status = InputBy (ResumePrints wanted) limit text status
StatusBy limit (Some (command.Serve options)) text status = InputBy (ServePrints options) limit text status
StatusBy limit (Some command.Help) text status = status ≡ Done
StatusBy limit (Some command.Version) text status = status ≡ Done
StatusBy limit None text status = status ≡ BadWords

-- the number is that of want of memory, or of a status that words and text alone allow; for `mirror` with `verify` both
-- 2 and 3 may be allowed
pub record AnswersBy (limit : ℕ) (words : List (List ℕ)) (text : List ℕ) (number : ℕ) : Type 0 where
  pub status : Status
  pub number_is : number ≡ number_of status
  pub by : (status ≡ NoMemory) ⊎ StatusBy limit (command_of words) text status

-- where nothing fails, the top call's answer is such a number by words and input alone
abbrev pub AnswersAreComplete : Type 0
AnswersAreComplete = (limit : ℕ) (words : List (List ℕ)) (text : List ℕ) (before after : Told) (number : ℕ)
    → Answers limit words before after number → NothingFails text before after → AnswersBy limit words text number
