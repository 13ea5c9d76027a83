use Rattle.std.proofs.Common.{rules, ℕ, [], ◌∷◌, ◌++◌, refl, ◌∙◌, ap}
use Rattle.std.specs.Prelude.{Option}
use Rattle.xet_base.specs.declared.invalid.Invalid.TheVariants.{UnknownXorb}
use Rattle.xet_progress_state.specs.declared.step.TrackerStep.TheVariants.{RegisterXorbUploadCompletion}
use Rattle.xet_progress_state.specs.Counts.{new_file, growth}
use Rattle.xet_progress_state.specs.Accepted.{completion_test}
use Rattle.xet_progress_state.proofs.Looked.{looked, missed, refused_by, accepted_by}
use Rattle.xet_progress_state.proofs.Steps.{again_step, kept_same}
use Rattle.xet_progress_state.proofs.Pushed.{flat_push_none, sum_push_none}
use Rattle.xet_progress_state.proofs.Advance.{completion_can, completion_at}
use Rattle.xet_progress_state.proofs.NewFile.{kept_to}
use Rattle.xet_progress_state.proofs.Marking.{marked_risen, risen_credited}
use Rattle.xet_progress_state.proofs.Named.{same_names}
use Rattle.xet_progress_state.proofs.state.TrackerState.complete_xorb.Goals as goal

pub returns-in_default : goal.returns-in_default
returns-in_default c =
    let s = c.self.inside in
    let none = missed s.calls.items c.args.xorb_hash s.files.items s.xorbs s.total s.completed s.sizes c.self.invariant.kept c.in_default.ensures.none in
    rw (← c.self.view_is) (refused_by s.calls.items (RegisterXorbUploadCompletion c.args.xorb_hash) tt (UnknownXorb c.args.xorb_hash) (ap (λ (o : Option ℕ). completion_test c.args.xorb_hash o) none))

pub invariant_of-self : goal.invariant_of-self
invariant_of-self c =
    let s = c.self.inside in
    let l = looked s.calls.items c.args.xorb_hash s.files.items s.xorbs s.total s.completed s.sizes c.in-Some.found c.self.invariant.kept c.in-Some.ensures.some in
    record {
      kept = kept_to (kept_same s.calls.items (s.calls.items ++ RegisterXorbUploadCompletion c.args.xorb_hash ∷ []) s.files.items s.xorbs s.total s.completed s.sizes
          (again_step c.args.xorb_hash s.calls.items (l.done ∙ c.if-found.true))
          (flat_push_none new_file s.calls.items (RegisterXorbUploadCompletion c.args.xorb_hash) refl) (λ f. sum_push_none (growth f) s.calls.items (RegisterXorbUploadCompletion c.args.xorb_hash) refl) c.self.invariant.kept)
          c.and-self-inside.ensures refl refl refl refl refl;
      names = same_names s.calls.items c.and-self-inside.result.items (RegisterXorbUploadCompletion c.args.xorb_hash) s.names c.self.invariant.names c.and-self-inside.ensures refl;
      marked = c.self.invariant.marked;
    }

pub returns-then-found : goal.returns-then-found
returns-then-found c =
    let s = c.self.inside in
    let l = looked s.calls.items c.args.xorb_hash s.files.items s.xorbs s.total s.completed s.sizes c.in-Some.found c.self.invariant.kept c.in-Some.ensures.some in
    rw (← c.self.view_is) (accepted_by s.calls.items c.and-self-inside.result.items (RegisterXorbUploadCompletion c.args.xorb_hash) tt tt (ap (λ (o : Option ℕ). completion_test c.args.xorb_hash o) l.size) refl c.and-self-inside.ensures)

pub finish-requires-clause-can : goal.finish-requires-clause-can
finish-requires-clause-can c =
    let s = c.self.inside in
    λ x at. completion_can s.calls.items c.args.xorb_hash s.files.items s.xorbs s.total s.completed s.sizes c.in-Some.found c.self.invariant.kept c.in-Some.ensures.some c.if-found.false x at (search rules)

pub invariant_of-self-2 : goal.invariant_of-self-2
invariant_of-self-2 c =
    let s = c.self.inside in
    record {
      kept = kept_to (completion_at s.calls.items c.args.xorb_hash s.files.items s.xorbs s.total s.completed s.sizes c.in-Some.found c.self.invariant.kept c.in-Some.ensures.some c.if-found.false
          c.finish.new.self c.finish.new.files.items c.finish.new.completed c.finish.ensures.xorb c.finish.ensures.count c.finish.ensures.sum)
          c.and-self-inside-2.ensures refl refl refl refl refl;
      names = same_names s.calls.items c.and-self-inside-2.result.items (RegisterXorbUploadCompletion c.args.xorb_hash) s.names c.self.invariant.names c.and-self-inside-2.ensures refl;
      marked = marked_risen s.files.items c.finish.new.files.items s.marks (risen_credited s.files.items c.finish.new.files.items c.finish.ensures.xorb.old.parts 1 1 c.finish.ensures.count c.finish.ensures.xorb.credited) c.self.invariant.marked;
    }

pub returns : goal.returns
returns c =
    let s = c.self.inside in
    let l = looked s.calls.items c.args.xorb_hash s.files.items s.xorbs s.total s.completed s.sizes c.in-Some.found c.self.invariant.kept c.in-Some.ensures.some in
    rw (← c.self.view_is) (accepted_by s.calls.items c.and-self-inside-2.result.items (RegisterXorbUploadCompletion c.args.xorb_hash) tt tt (ap (λ (o : Option ℕ). completion_test c.args.xorb_hash o) l.size) refl c.and-self-inside-2.ensures)
