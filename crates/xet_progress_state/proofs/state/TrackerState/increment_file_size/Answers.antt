use Rattle.std.proofs.Common.{rules, ◌≡◌, ◌+◌, ◌<◌, ◌≤◌, ◌^◌, ℕ, true, false, List, refl, sym, ◌∙◌, ap, None, length, get_or, arith}
use Rattle.std.specs.Prelude.{Option}
use Rattle.xet_base.specs.declared.invalid.Invalid.TheVariants.{UnknownFile, SumTooGreat}
use Rattle.xet_progress_state.specs.declared.step.TrackerStep.{TrackerStep}
use Rattle.xet_progress_state.specs.declared.step.TrackerStep.TheVariants.{IncrementFileSize}
use Rattle.xet_progress_state.specs.declared.file.TrackedFile.{TrackedFile}
use Rattle.xet_progress_state.specs.declared.xorb.TrackedXorb.{TrackedXorb}
use Rattle.xet_progress_state.specs.Counts.{sizes}
use Rattle.xet_progress_state.specs.Accepted.{growth_test, too_great, refusal_of}
use Rattle.xet_progress_state.specs.steps.Kept.{IsKept}
use Rattle.xet_progress_state.proofs.NewFile.{kept_count, kept_to}
use Rattle.xet_progress_state.proofs.Looked.{refused_by, accepted_by, too_great_no, too_great_yes}
use Rattle.xet_progress_state.proofs.Growth.{get_none, total_le, size_at, fixed_at, kept_fixed, kept_grown, fixed_test, free_test}
use Rattle.xet_progress_state.proofs.Moved.{total_kept}
use Rattle.xet_progress_state.proofs.Marking.{same_but}
use Rattle.xet_progress_state.proofs.Named.{same_names}
use Rattle.xet_progress_state.proofs.state.TrackerState.increment_file_size.Goals as goal

-- the test at a fixed file, and at one that grows
fixed_here : (cs : List TrackerStep) (f k : ℕ) (fs : List TrackedFile) (xs : List TrackedXorb) (t c s : ℕ) (e : TrackedFile) → IsKept cs fs xs t c s → f < length fs → (get_or fs f e).fixed ≡ true → refusal_of cs (IncrementFileSize f k) ≡ None
fixed_here cs f k fs xs t c s e kept there fix =
    ap (λ (o : Option (Option ℕ)). growth_test cs f k o) (size_at cs f k fs xs t c s kept there)
    ∙ fixed_test cs f k (get_or (sizes cs) f None) (sym (fixed_at cs f k fs xs t c s kept there e) ∙ fix)

free_here : (cs : List TrackerStep) (f k : ℕ) (fs : List TrackedFile) (xs : List TrackedXorb) (t c s : ℕ) (e : TrackedFile) → IsKept cs fs xs t c s → f < length fs → (get_or fs f e).fixed ≡ false → refusal_of cs (IncrementFileSize f k) ≡ too_great t k
free_here cs f k fs xs t c s e kept there free =
    ap (λ (o : Option (Option ℕ)). growth_test cs f k o) (size_at cs f k fs xs t c s kept there)
    ∙ free_test cs f k (get_or (sizes cs) f None) (sym (fixed_at cs f k fs xs t c s kept there e) ∙ free)
    ∙ ap (λ (n : ℕ). too_great n k) (sym kept.total_is)

pub returns-in_default : goal.returns-in_default
returns-in_default c =
    let s = c.self.inside in
    let n = kept_count s.calls.items s.files.items s.xorbs s.total s.completed s.sizes c.self.invariant.kept in
    let out = rw c.as_slice.ensures.value at c.in_default.ensures.none in
    rw (← c.self.view_is) (refused_by s.calls.items (IncrementFileSize c.args.file_id c.args.size_increment) tt (UnknownFile c.args.file_id)
    (ap (λ (o : Option (Option ℕ)). growth_test s.calls.items c.args.file_id c.args.size_increment o) (get_none (sizes s.calls.items) c.args.file_id (omega (arith, out, n)))))

pub invariant_of-self : goal.invariant_of-self
invariant_of-self c =
    let s = c.self.inside in
    let some = rw c.as_slice.ensures.value at c.in-Some.ensures.some in
    record {
      kept = kept_to (kept_fixed s.calls.items c.args.file_id c.args.size_increment s.files.items s.xorbs s.total s.completed s.sizes c.self.invariant.kept some.0
          (record { fixed = false; total = 0; registered = 0; completed = 0 }) (sym (ap (λ (f : TrackedFile). f.fixed) some.1) ∙ c.if-file.true))
          c.and-self-inside.ensures refl refl refl refl refl;
      names = same_names s.calls.items c.and-self-inside.result.items (IncrementFileSize c.args.file_id c.args.size_increment) s.names c.self.invariant.names c.and-self-inside.ensures refl;
      marked = c.self.invariant.marked;
    }

pub returns-then-file : goal.returns-then-file
returns-then-file c =
    let s = c.self.inside in
    let some = rw c.as_slice.ensures.value at c.in-Some.ensures.some in
    rw (← c.self.view_is) (accepted_by s.calls.items c.and-self-inside.result.items (IncrementFileSize c.args.file_id c.args.size_increment) tt tt
    (fixed_here s.calls.items c.args.file_id c.args.size_increment s.files.items s.xorbs s.total s.completed s.sizes (record { fixed = false; total = 0; registered = 0; completed = 0 }) c.self.invariant.kept some.0 (sym (ap (λ (f : TrackedFile). f.fixed) some.1) ∙ c.if-file.true))
    refl c.and-self-inside.ensures)

pub returns-in_default-checked_add : goal.returns-in_default-checked_add
returns-in_default-checked_add c =
    let s = c.self.inside in
    let some = rw c.as_slice.ensures.value at c.in-Some.ensures.some in
    let over : 2 ^ 64 ≤ s.total + c.args.size_increment = search rules in
    rw (← c.self.view_is) (refused_by s.calls.items (IncrementFileSize c.args.file_id c.args.size_increment) tt (SumTooGreat s.total c.args.size_increment)
    (free_here s.calls.items c.args.file_id c.args.size_increment s.files.items s.xorbs s.total s.completed s.sizes (record { fixed = false; total = 0; registered = 0; completed = 0 }) c.self.invariant.kept some.0 (sym (ap (λ (f : TrackedFile). f.fixed) some.1) ∙ c.if-file.false)
    ∙ too_great_yes s.total c.args.size_increment over))

pub grow-requires-clause-room : goal.grow-requires-clause-room
grow-requires-clause-room c =
    let s = c.self.inside in
    let some = rw c.as_slice.ensures.value at c.in-Some.ensures.some in
    let le = total_le s.files.items c.args.file_id (record { fixed = false; total = 0; registered = 0; completed = 0 }) some.0 in
    let sum = total_kept s.calls.items s.files.items s.xorbs s.total s.completed s.sizes c.self.invariant.kept in
    let fits : s.total + c.args.size_increment < 2 ^ 64 = search rules in
    omega (arith, le, sum, fits)

pub invariant_of-self-2 : goal.invariant_of-self-2
invariant_of-self-2 c =
    let s = c.self.inside in
    let some = rw c.as_slice.ensures.value at c.in-Some.ensures.some in
    record {
      kept = kept_to (kept_grown s.calls.items c.args.file_id c.args.size_increment s.files.items s.xorbs s.total s.completed s.sizes c.self.invariant.kept some.0
          (record { fixed = false; total = 0; registered = 0; completed = 0 }) (sym (ap (λ (f : TrackedFile). f.fixed) some.1) ∙ c.if-file.false))
          c.and-self-inside-2.ensures (search rules) refl (search rules) refl refl;
      names = same_names s.calls.items c.and-self-inside-2.result.items (IncrementFileSize c.args.file_id c.args.size_increment) s.names c.self.invariant.names c.and-self-inside-2.ensures refl;
      marked = c.in_ok-reopen.ensures.ok s.files.items c.grow.new.files.items c.self.invariant.marked (same_but s.files.items c.grow.new.files.items c.args.file_id _ c.grow.ensures);
    }

pub returns : goal.returns
returns c =
    let s = c.self.inside in
    let some = rw c.as_slice.ensures.value at c.in-Some.ensures.some in
    let fits : s.total + c.args.size_increment < 2 ^ 64 = search rules in
    rw (← c.self.view_is) (accepted_by s.calls.items c.and-self-inside-2.result.items (IncrementFileSize c.args.file_id c.args.size_increment) tt tt
    (free_here s.calls.items c.args.file_id c.args.size_increment s.files.items s.xorbs s.total s.completed s.sizes (record { fixed = false; total = 0; registered = 0; completed = 0 }) c.self.invariant.kept some.0 (sym (ap (λ (f : TrackedFile). f.fixed) some.1) ∙ c.if-file.false)
    ∙ too_great_no s.total c.args.size_increment fits) refl c.and-self-inside-2.ensures)
