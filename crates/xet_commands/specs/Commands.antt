-- The commands: the words that spell each, and what the top call says of it.
use Rattle.std.specs.Prelude.{ℕ, ◌≡◌, ◌≤◌, cond, false, List, [], ◌∷◌, Option, Some, None, option_map, codes}
use Rattle.std.specs.Str.{bytes_eq}
use Rattle.xet_room.specs.declared.status.Status.{Status}
use Rattle.xet_room.specs.declared.status.Status.TheVariants.{Done, BadWords}
use Rattle.xet_commands.specs.declared.commands.Command.{Command}
use Rattle.xet_commands.specs.declared.commands.Command.TheVariants as command
use Rattle.xet_room.specs.Ends.{Told}
use Rattle.xet_room.specs.Inputs.{InputOutcome}
use Rattle.xet_get_command.specs.GetWords.{wanted_of}
use Rattle.xet_room.specs.Outcome.{IsFlushed, IsReadUnfailed, IsUnfailed, TextOutcome}
use Rattle.xet_room.specs.Texts.{line, number_of}
use Rattle.xet_commands.specs.Texts.{help_text, version_text}
use Rattle.xet_get_command.specs.Get.{GetOutcome}
use Rattle.xet_track_command.specs.Track.{TrackOutcome}
use Rattle.xet_bench_command.specs.Bench.{BenchOutcome, bench_of}
use Rattle.xet_roundtrip_command.specs.Roundtrip.{RoundtripOutcome, size_of}
use Rattle.xet_audit_command.specs.Audit.{AuditPrints, hashes_of}
use Rattle.xet_compact_command.specs.Compact.{CompactPrints}
use Rattle.xet_mirror_command.specs.Mirror.{MirrorPrints, verify_of}
use Rattle.xet_resume_command.specs.Resume.{ResumePrints}
use Rattle.xet_resume_command.specs.Words.{resume_of}
use Rattle.xet_serve_command.specs.Serve.{ServePrints, serve_options}

-- the command of one word, of those over a store's document
abbrev pub document_command_of_one : List ℕ → Option Command
document_command_of_one w =
    cond (bytes_eq w (codes "audit")) (Some (command.Audit false))
    (cond (bytes_eq w (codes "compact")) (Some command.Compact)
    (cond (bytes_eq w (codes "mirror")) (Some (command.Mirror false))
    (cond (bytes_eq w (codes "serve")) (option_map command.Serve (serve_options [])) None)))

-- the command of one word
abbrev pub command_of_one : List ℕ → Option Command
command_of_one w =
    cond (bytes_eq w (codes "--help")) (Some command.Help) (cond (bytes_eq w (codes "--version")) (Some command.Version)
    (cond (bytes_eq w (codes "track")) (Some command.Track) (document_command_of_one w)))

-- the command of this name, with the words after it, if it is `mirror`
abbrev pub mirror_named : List ℕ → List (List ℕ) → Option Command
mirror_named name words = cond (bytes_eq name (codes "mirror")) (option_map command.Mirror (verify_of words)) None

-- the command of this name, with the words after it, if it is `serve` or `mirror`
abbrev pub serve_named : List ℕ → List (List ℕ) → Option Command
serve_named name words =
    cond (bytes_eq name (codes "serve")) (option_map command.Serve (serve_options words)) (mirror_named name words)

-- the same, as one word: what is searched for doesn't look into it
unfoldable pub session_command_with : List ℕ → List (List ℕ) → Option Command
session_command_with name words = serve_named name words

-- the command of this name, with the words after it, of those that fetch ranges that are listed
abbrev pub last_command_with : List ℕ → List (List ℕ) → Option Command
last_command_with name words =
    cond (bytes_eq name (codes "resume")) (option_map command.Resume (resume_of words))
    (session_command_with name words)

-- the command of this name, with the words after it, of those that are neither `get` nor `bench`
abbrev pub other_command_with : List ℕ → List (List ℕ) → Option Command
other_command_with name words =
    cond (bytes_eq name (codes "roundtrip")) (option_map command.Roundtrip (size_of words))
    (cond (bytes_eq name (codes "audit")) (option_map command.Audit (hashes_of words))
    (last_command_with name words))

-- the command of this name, with the words after it
abbrev pub command_with : List ℕ → List (List ℕ) → Option Command
command_with name words =
    cond (bytes_eq name (codes "get")) (option_map command.Get (wanted_of words))
    (cond (bytes_eq name (codes "bench")) (option_map command.Bench (bench_of words))
    (other_command_with name words))

-- a command of one word alone, or another with its words
abbrev pub command_of : List (List ℕ) → Option Command
command_of [] = None
command_of (w ∷ []) = command_of_one w
command_of (w ∷ v ∷ vs) = command_with w (v ∷ vs)

-- a round trip is of 1,000,000 bytes at most
abbrev pub IsWithinSize : Command → Type 0
IsWithinSize (command.Roundtrip size) = size ≤ 1000000
IsWithinSize c = Unit {0}

-- any words, by the command that they spell
abbrev pub Outcome : ℕ → Option Command → Told → Told → Status → Type 0
Outcome limit (Some (command.Get wanted)) before after status = GetOutcome limit wanted before after status
Outcome limit (Some (command.Bench wanted)) before after status = BenchOutcome wanted before after status
Outcome limit (Some (command.Roundtrip size)) before after status = RoundtripOutcome size before after status
Outcome limit (Some command.Track) before after status = TrackOutcome limit before after status
Outcome limit (Some (command.Audit hashes)) before after status =
    InputOutcome (AuditPrints hashes) limit before after status
Outcome limit (Some command.Compact) before after status = InputOutcome CompactPrints limit before after status
Outcome limit (Some (command.Mirror verify)) before after status =
    InputOutcome (MirrorPrints verify) limit before after status
Outcome limit (Some (command.Resume wanted)) before after status =
    InputOutcome (ResumePrints wanted) limit before after status
Outcome limit (Some (command.Serve options)) before after status =
    InputOutcome (ServePrints options) limit before after status
Outcome limit (Some command.Help) before after status = TextOutcome help_text Done before after status
Outcome limit (Some command.Version) before after status = TextOutcome version_text Done before after status
Outcome limit None before after status = TextOutcome (line BadWords) BadWords before after status

-- the status behind the number that the program answers
pub record Answers (limit : ℕ) (words : List (List ℕ)) (before after : Told) (number : ℕ) : Type 0 where
  pub status : Status
  pub number_is : number ≡ number_of status
  pub outcome : Outcome limit (command_of words) before after status
  pub flushed : IsFlushed status after.sink
  pub unfailed : IsUnfailed status before.sink after.sink
  pub read : IsReadUnfailed status before.source after.source
