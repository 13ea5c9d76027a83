-- What a run of a part says, and how it ends the part.
use Rattle.std.proofs.Common.{◌≡◌, ◌⊎◌, ℕ, ◌+◌, ◌-◌, ◌<◌, ◌≤◌, ◌==◌, Bool, true, false, cond, List, [], ◌++◌, length, Option, None, Some}
use Rattle.std.proofs.Common.{Ok, Err, Result, IfOk, refl, sym, ap, subst, ◌∙◌, inl, inr, ⊎_elim, arith, nat_eq, option_map}
use Rattle.std.proofs.lemmas.Bool.{eqb-false, eqb-true}
use Rattle.xet_base.specs.declared.cas_types.FileRange.{FileRange}
use Rattle.xet_base.specs.declared.merklehash.MerkleHash.{MerkleHash}
use Rattle.xet_outside.specs.declared.sink.SinkError.{SinkError}
use Rattle.xet_outside.specs.declared.sink.SinkError.TheVariants as sink_error
use Rattle.xet_outside.specs.Places.{PlaceCall, Placed, at_place, placed_of, written as put}
use Rattle.xet_outside.specs.Told.{SinkTold, Took}
use Rattle.xet_error.specs.declared.error.FileReconstructionError.{FileReconstructionError}
use Rattle.xet_error.specs.declared.error.FileReconstructionError.TheVariants as error
use Rattle.xet_error.specs.declared.error.Setting.{Setting}
use Rattle.xet_error.specs.Errors.{of_sink_error}
use Rattle.xet_events.specs.declared.event.Event.{Event}
use Rattle.xet_events.specs.Allowed.{IsAllowedHistory}
use Rattle.xet_events.specs.Events.{written}
use Rattle.xet_events.specs.Limits.{LimitTold}
use Rattle.xet_terms.specs.declared.reconstruction_config.ReconstructionConfig.{ReconstructionConfig}
use Rattle.xet_ties.specs.Causes.{refused_setting}
use Rattle.xet_ties.specs.RunCalls.{IsFinished, RunCall, RunTies, stop_of}
use Rattle.xet_ties.specs.Setup.{RunTold, Setup, setup_of}
use Rattle.xet_ties.specs.Ties.{IsOther, MayLeave, Slack}
use Rattle.xet_ties.proofs.CallerLemmas.{legal_of}
use Rattle.xet_reconstruct.specs.Lent.{no_limits}
use Rattle.xet_reconstruct.specs.Ran.{RanUnder, limit_of, limited}
use Rattle.xet_reconstruct.specs.ToFile.{StandAt, StandsAt, ready_at}
use Rattle.xet_resume.specs.declared.part.Stopped.{Stopped}
use Rattle.xet_resume.specs.declared.resume_error.ResumeError.TheVariants as resume_error
use Rattle.xet_resume.specs.Errors.{of_run}
use Rattle.xet_resume.specs.Fills.{EndsBy, IsUnplaced, MayTakeMore, PartDone, PartEnds, PartRun, PartTook}
use Rattle.xet_resume.specs.steps.Filling.{Follows, PartAnswer, RanPart, ended_by}
use Rattle.xet_resume.proofs.PlannedBytes.{written_within}
use Rattle.xet_resume.proofs.Unlimited.{unlimited_legal}

-- ---- the run

-- it counts all that was taken, but for two errors
all_counted : (answer : Result ℕ FileReconstructionError) (sl : Slack) → (stop_of answer ≡ None → sl.ahead ≡ 0)
    → (IsOther (stop_of answer) → (stop_of answer ≡ Some error.IoError → ⊥) → sl.ahead ≡ 0)
    → (sl.ahead ≡ 0) ⊎ MayTakeMore answer
all_counted (Ok k) sl none other = inl (none refl)
all_counted (Err error.OutOfMemory) sl none other = inr tt
all_counted (Err error.IoError) sl none other = inr tt
all_counted (Err error.ClientError) sl none other = inl (other (λ e. cc) (λ e. cc))
all_counted (Err error.FileNotFound) sl none other = inl (other (λ e. cc) (λ e. cc))
all_counted (Err error.UrlExpired) sl none other = inl (other (λ e. cc) (λ e. cc))
all_counted (Err (error.CorruptedReconstruction k)) sl none other = inl (other (λ e. cc) (λ e. cc))
all_counted (Err (error.ConfigurationError s)) sl none other = inl (other (λ e. cc) (λ e. cc))
all_counted (Err error.Cancelled) sl none other = inl (other (λ e. cc) (λ e. cc))
all_counted (Err (error.InternalWriterError w)) sl none other = inl (other (λ e. cc) (λ e. cc))

if_ok : {A E : Type 0} (r : Result A E) (P Q : A → Type 0) → ((x : A) → P x → Q x) → IfOk r P → IfOk r Q
if_ok (Ok x) P Q f h = f x h
if_ok (Err e) P Q f h = tt

pub ran_part : (config : ReconstructionConfig) (file : MerkleHash) (part : FileRange) (b n : RunTold) (es : List Event)
    (later : LimitTold) (answer : Result ℕ FileReconstructionError) → b.limits ≡ no_limits → n.limits ≡ no_limits
    → part.start < part.end → refused_setting (setup_of file part config) b.clients ≡ None → IsAllowedHistory es
    → RunCall (setup_of file part config) (limited (limit_of None config) b) (limited later n) es answer
    → RanPart config file part b n (written es) answer
ran_part config file part b n es later answer eb en some met a r =
    let g : Setup = setup_of file part config in
    let ties = r.tied met in
    let sl = ties.slack in
    let taken = ties.ties.taken in
    let counted = taken.counted in
    let left = ties.left in
    let all = all_counted answer ties.slack (λ e. (left.none e).ahead) left.counted in
    let within =
    written_within (setup_of file part config) (limited (limit_of None config) b) (limited later n) es (stop_of answer)
    ties.slack a ties.ties some in
    let legal =
    unlimited_legal (setup_of file part config) (limited (limit_of None config) b) (limited later n) answer
    (legal_of (setup_of file part config) (limited (limit_of None config) b) (limited later n) es answer a r) in
    record {
      ran = record { events = es; later = later; allowed = a; call = r };
      core = refl;
      legal = subst (λ (l : LimitTold). Rattle.xet_ties.specs.Legal.Legal (setup_of file part config)
          (record b { limits = l }) n answer) (sym eb)
          (subst (λ (l : LimitTold). Rattle.xet_ties.specs.Legal.Legal (setup_of file part config)
          (record b { limits = no_limits }) (record n { limits = l }) answer) (sym en) legal);
      taken = taken.taken;
      took = taken.took;
      counted = omega (arith, counted);
      all = ⊎_elim (λ (h : sl.ahead ≡ 0). inl (let z : written es ≡ length taken.taken = omega (arith, counted, h) in z))
          (λ (h : MayTakeMore answer). inr h) all;
      within = within;
      is = if_ok answer (IsFinished (setup_of file part config) es) (λ k. k ≡ written es) (λ k f. f.count) r.finished;
    }

-- ---- the part

-- what is taken after the place was set stands there
stands : (place : ℕ) (b m n : SinkTold) → PlaceCall b m (at_place place) (Ok tt) → Follows m → n.link ≡ m.link
    → StandsAt false place b n
stands place b m n call follows link bytes took =
    follows n bytes (subst (λ (o : Option (List ℕ)). Took o n.took bytes) (sym call.took) took) link
    ∙ ap (option_map (put bytes)) call.done ∙ ready bytes (placed_of b)
  where
    ready : (bytes : List ℕ) (o : Option Placed)
        → option_map (put bytes) (option_map (at_place place) o)
        ≡ option_map (λ (p : Placed). put bytes (ready_at false place p)) o
    ready bytes None = refl
    ready bytes (Some p) = refl

pub part_run : (config : ReconstructionConfig) (file : MerkleHash) (part : FileRange) (b n : RunTold) (m : SinkTold)
    (count : ℕ) (answer : Result ℕ FileReconstructionError) → PlaceCall b.sink m (at_place part.start) (Ok tt)
    → Follows m → RanPart config file part (record b { sink = m }) n count answer
    → PartRun config file part b n count answer
part_run config file part b n m count answer call follows r = record {
  ready = m;
  placed = call;
  ran = r.ran;
  core = r.core;
  legal = r.legal;
  took = record {
    taken = r.taken;
    took = subst (λ (o : Option (List ℕ)). Took o n.sink.took r.taken) call.took r.took;
    counted = r.counted;
    all = r.all;
    within = r.within;
    stands = stands part.start b.sink m n.sink call follows r.legal.later.link;
  };
}

-- an answer of Ok counts what was counted
ok_ends : (config : ReconstructionConfig) (file : MerkleHash) (part : FileRange) (b n : RunTold) (count k : ℕ)
    → k ≡ count → PartRun config file part b n count (Ok k) → PartAnswer config file part b n (ended_by part count (Ok k))
ok_ends config file part b n count k e r = by (k == part.end - part.start) refl
  where
    whole : k ≡ part.end - part.start → PartDone config file part b n
    whole is =
        subst (λ (m : ℕ). PartRun config file part b n m (Ok m)) is
        (subst (λ (m : ℕ). PartRun config file part b n m (Ok k)) (sym e) r)

    by : (v : Bool) → (k == part.end - part.start) ≡ v
        → PartAnswer config file part b n (cond v (Ok tt)
        (Err (record { count = count; error = resume_error.Short (part.end - part.start) k })))
    by true is = whole (eqb-true k (part.end - part.start) is)
    by false is = (refl, eqb-false k (part.end - part.start) is, sym e, r)

err_ends : (config : ReconstructionConfig) (file : MerkleHash) (part : FileRange) (b n : RunTold) (count : ℕ)
    (e : FileReconstructionError) → EndsBy config file part b n count e
    → PartEnds config file part b n count (of_run e)
err_ends config file part b n count error.OutOfMemory r = r
err_ends config file part b n count error.ClientError r = ((λ e. cc), r)
err_ends config file part b n count error.FileNotFound r = ((λ e. cc), r)
err_ends config file part b n count error.UrlExpired r = ((λ e. cc), r)
err_ends config file part b n count error.IoError r = ((λ e. cc), r)
err_ends config file part b n count (error.CorruptedReconstruction k) r = ((λ e. cc), r)
err_ends config file part b n count (error.ConfigurationError s) r = ((λ e. cc), r)
err_ends config file part b n count error.Cancelled r = ((λ e. cc), r)
err_ends config file part b n count (error.InternalWriterError w) r = ((λ e. cc), r)

pub part_ends : (config : ReconstructionConfig) (file : MerkleHash) (part : FileRange) (b n : RunTold) (count : ℕ)
    (answer : Result ℕ FileReconstructionError) → IfOk answer (λ k. k ≡ count)
    → PartRun config file part b n count answer → PartAnswer config file part b n (ended_by part count answer)
part_ends config file part b n count (Ok k) e r = ok_ends config file part b n count k e r
part_ends config file part b n count (Err e) i r = err_ends config file part b n count e (inl r)

-- its place could not be set
pub part_unplaced : (config : ReconstructionConfig) (file : MerkleHash) (part : FileRange) (b : RunTold) (m : SinkTold)
    (e : SinkError) → PlaceCall b.sink m (at_place part.start) (Err e)
    → PartEnds config file part b (record b { sink = m }) 0 (of_run (of_sink_error e))
part_unplaced config file part b m sink_error.OutOfMemory call =
    err_ends config file part b (record b { sink = m }) 0 error.OutOfMemory (inr (
      record {
        sink = m;
        failure = sink_error.OutOfMemory;
        call = call;
        rest = refl;
        is = inl (refl, call.short refl);
      },
      refl,
    ))
part_unplaced config file part b m sink_error.Failed call =
    err_ends config file part b (record b { sink = m }) 0 error.IoError (inr (
      record {
        sink = m;
        failure = sink_error.Failed;
        call = call;
        rest = refl;
        is = inr (refl, call.failed refl);
      },
      refl,
    ))
