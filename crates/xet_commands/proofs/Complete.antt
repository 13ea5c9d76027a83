-- Where nothing that the program is given fails, it answers by words and input alone, or for want of memory.
use Rattle.std.proofs.Common.{◌≡◌, ◌⊎◌, ℕ, true, false, List, Option, Some, None, refl, sym, subst, inl, inr, ⊎_elim}
use Rattle.std.proofs.lemmas.List.Elements.{All-take}
use Rattle.xet_store.specs.Taps.{TapTold}
use Rattle.xet_room.specs.declared.status.Status.{Status}
use Rattle.xet_room.specs.declared.status.Status.TheVariants as status
use Rattle.xet_room.specs.Ends.{Told}
use Rattle.xet_room.specs.Inputs.{InputPrinted, MemoryPrinted, OverInput, Prints, TextPrinted, UnreadPrinted}
use Rattle.xet_room.specs.Outcome.{Finished}
use Rattle.xet_get_command.specs.declared.wanted.Wanted.{Wanted}
use Rattle.xet_get_command.specs.Get.{GetOutcome, OverStore}
use Rattle.xet_get_command.specs.GetOptions.{lanes_of}
use Rattle.xet_get_command.specs.Taps.{LanesHonest}
use Rattle.xet_track.specs.Texts.{track_reads}
use Rattle.xet_track_command.specs.Track.{TrackStatus}
use Rattle.xet_bench_command.specs.declared.wanted.BenchWanted.{BenchWanted}
use Rattle.xet_bench_command.specs.Bench.{BenchPrinted, end_by, unmet_bench}
use Rattle.xet_roundtrip_command.specs.Roundtrip.{RoundtripPrinted}
use Rattle.xet_audit_command.specs.Audit.{AuditPrints}
use Rattle.xet_compact_command.specs.Compact.{CompactPrints}
use Rattle.xet_mirror_command.specs.Mirror.{MirrorPrints}
use Rattle.xet_resume_command.specs.Resume.{ResumePrints}
use Rattle.xet_serve_command.specs.Serve.{ServePrints}
use Rattle.xet_commands.specs.declared.commands.Command.{Command}
use Rattle.xet_commands.specs.declared.commands.Command.TheVariants as command
use Rattle.xet_commands.specs.Commands.{Outcome, command_of}
use Rattle.xet_commands.specs.Completeness.{AnswersAreComplete, GetBy, InputBy, IsDocument, NothingFails, StatusBy, TrackBy}

lanes_honest : (wanted : Wanted) (text : List ℕ) (b n : Told) → NothingFails text b n → LanesHonest wanted b.taps
lanes_honest wanted text b n f = All-take (λ (t : TapTold). t.honest ≡ true) (lanes_of wanted.options) b.taps f.taps

module _ (limit : ℕ) (text : List ℕ) (b n : Told) (f : NothingFails text b n) where
  document : (wanted : Wanted) (store : _) → OverStore limit store wanted b n → IsDocument limit text store
  document wanted store o = record { short = (o.read text f.input).0; is = o.document text f.input }

  get_by : (wanted : Wanted) (s : Status) → GetOutcome limit wanted b n s
      → (s ≡ status.NoMemory) ⊎ GetBy limit wanted text s
  get_by wanted status.Done o =
      inr (o.store, document wanted o.store o.over, o.settings, (o.honest (lanes_honest wanted text b n f)).printed.found)
  get_by wanted status.BadStore o = inr ((o.read text f.input).0, o.no_document text f.input)
  get_by wanted status.NotFound o =
      inr (o.store, document wanted o.store o.over, o.settings, (o.honest (lanes_honest wanted text b n f)).missing)
  get_by wanted status.ReadFault o = absurd (f.reads o.rose)
  get_by wanted status.WriteFault o = absurd (f.writes o.0)
  get_by wanted status.NoMemory o = inl refl
  get_by wanted status.TooLong o = inr (o.too_long text f.input)
  get_by wanted (status.BadSettings e) o = inr (o.store, document wanted o.store o.over, o.failing)
  get_by wanted (status.BadBlock k) o = absurd (o.dishonest (lanes_honest wanted text b n f))
  get_by wanted _ o = absurd o

  track_by : (s : Status) → TrackStatus limit b n s → (s ≡ status.NoMemory) ⊎ TrackBy limit text s
  track_by status.Done o =
      inr ((o.over.read text f.input).0, subst (λ (l : List ℕ). track_reads l ≡ true) (o.over.script_is text f.input) o.from.0)
  track_by status.BadScript o =
      inr ((o.over.read text f.input).0, subst (λ (l : List ℕ). track_reads l ≡ false) (o.over.script_is text f.input) o.from.0)
  track_by status.ReadFault o = absurd (f.reads o.rose)
  track_by status.WriteFault o = absurd (f.writes o.0)
  track_by status.NoMemory o = inl refl
  track_by status.TooLong o = inr (o.too_long text f.input)
  track_by _ o = absurd o

  text_by : {t : List ℕ} (whole s : Status) → Finished t whole b.sink n.sink s → (s ≡ status.NoMemory) ⊎ (s ≡ whole)
  text_by whole s o =
      ⊎_elim (λ d. inr d.0)
      (λ r. ⊎_elim (λ w. absurd (f.writes w.1)) (λ m. inl m.0) r)
      o

  memory_by : (s : Status) → MemoryPrinted b.sink n.sink s → s ≡ status.NoMemory
  memory_by s o = ⊎_elim (λ m. m) (λ m. m) (text_by status.NoMemory s o)

  unread_by : (P : Prints) (s : Status) → UnreadPrinted limit b.source n.source b.sink n.sink s
      → (s ≡ status.NoMemory) ⊎ InputBy P limit text s
  unread_by P s (inl o) = absurd (f.reads o.0)
  unread_by P s (inr (inl o)) =
      ⊎_elim (λ m. inl m) (λ e. inr (inl (o.0 text f.input, e))) (text_by status.TooLong s o.1)
  unread_by P s (inr (inr o)) = inl (memory_by s o)

  own_by : (P : Prints) (t whole : List ℕ) (own s : Status) → OverInput limit t b.source n.source → P t own whole
      → (s ≡ status.NoMemory) ⊎ (s ≡ own) → (s ≡ status.NoMemory) ⊎ InputBy P limit text s
  own_by P t whole own s over p (inl m) = inl m
  own_by P t whole own s over p (inr e) =
      inr (inr (
        whole,
        (over.read text f.input).0,
        subst (λ (x : List ℕ). P x s whole) (over.text_is text f.input)
            (subst (λ (u : Status). P t u whole) (sym e) p),
      ))

  input_by : (P : Prints) (s : Status) → InputPrinted P limit b n s → (s ≡ status.NoMemory) ⊎ InputBy P limit text s
  input_by P s (inl o) = unread_by P s o
  input_by P s (inr o) = of_text o.2
    where
      of_text : TextPrinted P o.0 b.sink n.sink s → (s ≡ status.NoMemory) ⊎ InputBy P limit text s
      of_text (inl q) = own_by P o.0 q.1 q.0 s o.1 q.2 (text_by q.0 s q.3)
      of_text (inr m) = inl (memory_by s m)

  bench_by : (wanted : BenchWanted) (s : Status) → BenchPrinted wanted b.sink n.sink s
      → (s ≡ status.NoMemory) ⊎ (s ≡ end_by (unmet_bench wanted))
  bench_by wanted s (inl o) = text_by (end_by (unmet_bench wanted)) s o
  bench_by wanted s (inr o) = ⊎_elim (λ m. inl m) (λ m. inl m) (text_by status.NoMemory s o)

  roundtrip_by : (size : ℕ) (s : Status) → RoundtripPrinted size b.sink n.sink s
      → (s ≡ status.NoMemory) ⊎ (s ≡ status.Done)
  roundtrip_by size s (inl o) = text_by status.Done s o.2
  roundtrip_by size s (inr o) = ⊎_elim (λ m. inl m) (λ m. inl m) (text_by status.NoMemory s o)

  outcome_by : (o : Option Command) (s : Status) → Outcome limit o b n s → (s ≡ status.NoMemory) ⊎ StatusBy limit o text s
  outcome_by (Some (command.Get wanted)) s o = get_by wanted s o
  outcome_by (Some (command.Bench wanted)) s o = bench_by wanted s o.printed
  outcome_by (Some (command.Roundtrip size)) s o = roundtrip_by size s o.printed
  outcome_by (Some command.Track) s o = track_by s o.by_status
  outcome_by (Some (command.Audit hashes)) s o = input_by (AuditPrints hashes) s o.printed
  outcome_by (Some command.Compact) s o = input_by CompactPrints s o.printed
  outcome_by (Some (command.Mirror verify)) s o = input_by (MirrorPrints verify) s o.printed
  outcome_by (Some (command.Resume wanted)) s o = input_by (ResumePrints wanted) s o.printed
  outcome_by (Some (command.Serve options)) s o = input_by (ServePrints options) s o.printed
  outcome_by (Some command.Help) s o = text_by status.Done s o.text_is
  outcome_by (Some command.Version) s o = text_by status.Done s o.text_is
  outcome_by None s o = text_by status.BadWords s o.text_is

pub complete : AnswersAreComplete
complete limit words text b n number a f = record {
  status = a.status;
  number_is = a.number_is;
  by = outcome_by limit text b n f (command_of words) a.status a.outcome;
}
