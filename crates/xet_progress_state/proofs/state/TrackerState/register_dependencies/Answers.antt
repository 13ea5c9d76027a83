use Rattle.std.proofs.Common.{rules, List, ◌≡◌, ◌<◌, ◌^◌, [], ◌∷◌, ◌++◌, refl, sym, ◌∙◌, ap, Some, None, length, map, take, get_or, arith}
use Rattle.std.specs.Prelude.{All}
use Rattle.std.proofs.lemmas.List.{take_all}
use Rattle.xet_base.specs.Lists.{first_some}
use Rattle.xet_base.proofs.CallerLemmas.{err-of}
use Rattle.xet_progress_state.specs.declared.file.TrackedFile.{TrackedFile}
use Rattle.xet_progress_state.specs.declared.step.FileXorbDependency.{FileXorbDependency}
use Rattle.xet_progress_state.specs.declared.step.TrackerStep.TheVariants.{RegisterDependencies}
use Rattle.xet_progress_state.specs.Counts.{sizes}
use Rattle.xet_progress_state.specs.steps.Depends.{pasts_in, unknown_in}
use Rattle.xet_progress_state.proofs.NewFile.{kept_count, kept_to}
use Rattle.xet_progress_state.proofs.Looked.{refused_by, accepted_by, no_memory}
use Rattle.xet_progress_state.proofs.Joined.{kept_joined, all_known, refused_unknown, tested_parts}
use Rattle.xet_progress_state.proofs.Loop.{step_can, step_kept, step_fits}
use Rattle.xet_progress_state.proofs.Marking.{marked_risen, marked_to, risen_on, risen_depended}
use Rattle.xet_progress_state.proofs.Named.{names_depended}
use Rattle.xet_progress_state.proofs.state.TrackerState.register_dependencies.Goals as goal

pub returns-in-Some : goal.returns-in-Some
returns-in-Some c =
    let s = c.self.inside in
    let n = kept_count s.calls.items s.files.items s.xorbs s.total s.completed s.sizes c.self.invariant.kept in
    let count : c.len-count.result ≡ length s.files.items = (let e = c.len-count.ensures in let ok = c.self.inside.files.ok.0 in omega (arith, e, ok)) in
    let len : c.len-count.result ≡ length (sizes s.calls.items) = count ∙ n in
    let e : first_some (map (unknown_in c.len-count.result) c.args.dependencies.now) ≡ Some c.in-Some.why = sym c.unknown_file.ensures ∙ c.in-Some.is in
    rw (← c.self.view_is) (refused_by s.calls.items (RegisterDependencies c.args.dependencies.now) tt c.in-Some.why (refused_unknown s.calls.items c.len-count.result c.args.dependencies.now c.in-Some.why len e))

pub past_total-requires-clause-known : goal.past_total-requires-clause-known
past_total-requires-clause-known c =
    let e : first_some (map (unknown_in c.len-count.result) c.args.dependencies.now) ≡ None = sym c.unknown_file.ensures ∙ c.in_default.is in
    let len : c.len-count.result ≡ length c.self.inside.files.items = (let e = c.len-count.ensures in let ok = c.self.inside.files.ok.0 in omega (arith, e, ok)) in
    λ k d l. let p = all_known c.len-count.result c.args.dependencies.now e k d l in omega (arith, p, len)

pub returns-in-Some-past_total : goal.returns-in-Some-past_total
returns-in-Some-past_total c =
    let s = c.self.inside in
    let n = kept_count s.calls.items s.files.items s.xorbs s.total s.completed s.sizes c.self.invariant.kept in
    let count : c.len-count.result ≡ length s.files.items = (let e = c.len-count.ensures in let ok = c.self.inside.files.ok.0 in omega (arith, e, ok)) in
    let len : c.len-count.result ≡ length (sizes s.calls.items) = count ∙ n in
    let e : first_some (map (unknown_in c.len-count.result) c.args.dependencies.now) ≡ None = sym c.unknown_file.ensures ∙ c.in_default.is in
    let p : pasts_in s.files.items [] c.args.dependencies.now ≡ Some c.in-Some-past_total.why = sym c.past_total.ensures.first ∙ c.in-Some-past_total.is in
    rw (← c.self.view_is) (refused_by s.calls.items (RegisterDependencies c.args.dependencies.now) tt c.in-Some-past_total.why
    (tested_parts s.calls.items c.len-count.result s.files.items c.args.dependencies.now len c.self.invariant.kept.files_are e ∙ p))

pub make_rooms-requires : goal.make_rooms-requires
make_rooms-requires c =
    let e : first_some (map (unknown_in c.len-count.result) c.args.dependencies.now) ≡ None = sym c.unknown_file.ensures ∙ c.in_default.is in
    all_known c.len-count.result c.args.dependencies.now e

pub depend-requires : goal.depend-requires
depend-requires c =
    let l = c.loop-dependency in
    let u : first_some (map (unknown_in c.len-count.result) c.args.dependencies.now) ≡ None = sym c.unknown_file.ensures ∙ c.in_default.is in
    let count : c.len-count.result ≡ length c.self.inside.files.items = (let e = c.len-count.ensures in let ok = c.self.inside.files.ok.0 in omega (arith, e, ok)) in
    let len = l.invariant.count ∙ ap (λ (fs : List TrackedFile). length fs) c.past_total.ensures.same ∙ sym count in
    let known : All (λ (d : FileXorbDependency). d.file_id < length l.self-inside.files.items) c.args.dependencies.now = λ k d m. let p = all_known c.len-count.result c.args.dependencies.now u k d m in omega (arith, p, len) in
    let small : l.self-inside.total < 2 ^ 64 = search rules in
    step_can l.self-inside.calls.items l.self-inside.files.items l.self-inside.xorbs l.self-inside.total l.self-inside.completed l.self-inside.sizes c.args.dependencies.now l.dependency-index _ l.invariant.kept l.invariant.fits known c.loop-dependency-test.true
    small (l.invariant.room l.dependency-index _ c.loop-dependency-test.true)

pub loop-dependency-preserved : goal.loop-dependency-preserved
loop-dependency-preserved c =
    let l = c.loop-dependency in
    let u : first_some (map (unknown_in c.len-count.result) c.args.dependencies.now) ≡ None = sym c.unknown_file.ensures ∙ c.in_default.is in
    let count : c.len-count.result ≡ length c.self.inside.files.items = (let e = c.len-count.ensures in let ok = c.self.inside.files.ok.0 in omega (arith, e, ok)) in
    let len = l.invariant.count ∙ ap (λ (fs : List TrackedFile). length fs) c.past_total.ensures.same ∙ sym count in
    let known : All (λ (d : FileXorbDependency). d.file_id < length l.self-inside.files.items) c.args.dependencies.now = λ k d m. let p = all_known c.len-count.result c.args.dependencies.now u k d m in omega (arith, p, len) in
    record {
      kept = step_kept l.self-inside.calls.items l.self-inside.files.items l.self-inside.xorbs l.self-inside.total l.self-inside.completed l.self-inside.sizes c.args.dependencies.now l.dependency-index _ l.invariant.kept l.invariant.fits known c.loop-dependency-test.true
          c.depend.new.files.items c.depend.new.xorbs c.depend.new.completed c.depend.ensures.step;
      fits = step_fits l.self-inside.calls.items l.self-inside.files.items l.self-inside.xorbs l.self-inside.total l.self-inside.completed l.self-inside.sizes c.args.dependencies.now l.dependency-index _ l.invariant.kept l.invariant.fits known c.loop-dependency-test.true
          c.depend.new.files.items c.depend.new.xorbs c.depend.new.completed c.depend.ensures.step;
      total = l.invariant.total;
      names = l.invariant.names;
      marks = l.invariant.marks;
      risen = risen_on _ l.self-inside.files.items c.depend.new.files.items l.invariant.risen
          (risen_depended c.depend.ensures.step.counts _ _ _ l.self-inside.files.items c.depend.new.files.items (known l.dependency-index _ c.loop-dependency-test.true) c.depend.ensures.step.files_are);
      count = c.depend.ensures.count ∙ l.invariant.count;
      same = l.invariant.same;
      room = λ k d m. c.depend.ensures.kept (get_or c.args.dependencies.now k d) (l.invariant.room k d m);
    }

pub invariant_of-self-2 : goal.invariant_of-self-2
invariant_of-self-2 c =
    let l = c.loop-dependency in
    let all : take l.dependency-index c.args.dependencies.now ≡ c.args.dependencies.now = take_all l.dependency-index c.args.dependencies.now (omega arith) in
    let k = kept_joined l.self-inside.calls.items c.args.dependencies.now l.self-inside.files.items l.self-inside.xorbs l.self-inside.total l.self-inside.completed l.self-inside.sizes (rw all at l.invariant.kept) in
    record {
      kept = kept_to k c.and-self-inside.ensures refl refl refl refl refl;
      names = names_depended c.self.inside.calls.items c.and-self-inside.result.items c.args.dependencies.now c.self.inside.names l.self-inside.names c.self.invariant.names
          (rw l.invariant.names c.in_ok-add_all.ensures.ok)
          (c.and-self-inside.ensures ∙ ap (λ l. l ++ RegisterDependencies c.args.dependencies.now ∷ []) l.invariant.same);
      marked = rw l.invariant.marks (marked_risen c.past_total.new.files.items l.self-inside.files.items c.self.inside.marks l.invariant.risen (marked_to c.self.invariant.marked c.past_total.ensures.same));
    }

pub returns : goal.returns
returns c =
    let s = c.self.inside in
    let n = kept_count s.calls.items s.files.items s.xorbs s.total s.completed s.sizes c.self.invariant.kept in
    let count : c.len-count.result ≡ length s.files.items = (let e = c.len-count.ensures in let ok = c.self.inside.files.ok.0 in omega (arith, e, ok)) in
    let len : c.len-count.result ≡ length (sizes s.calls.items) = count ∙ n in
    let e : first_some (map (unknown_in c.len-count.result) c.args.dependencies.now) ≡ None = sym c.unknown_file.ensures ∙ c.in_default.is in
    let p : pasts_in s.files.items [] c.args.dependencies.now ≡ None = sym c.past_total.ensures.first ∙ c.in_default-past_total.is in
    rw (← c.self.view_is) (accepted_by s.calls.items c.and-self-inside.result.items (RegisterDependencies c.args.dependencies.now) tt tt
    (tested_parts s.calls.items c.len-count.result s.files.items c.args.dependencies.now len c.self.invariant.kept.files_are e ∙ p) refl (c.and-self-inside.ensures ∙ ap (λ l. l ++ RegisterDependencies c.args.dependencies.now ∷ []) c.loop-dependency.invariant.same))

pub returns-in_err-make_rooms : goal.returns-in_err-make_rooms
returns-in_err-make_rooms c =
    rw (← c.self.view_is) (no_memory c.self.inside.calls.items (RegisterDependencies c.args.dependencies.now) tt c.from_residual.result (rw c.in_err-make_rooms.ensures.memory at (err-of _ _ c.from_residual.ensures)))

pub returns-in_err-add_all : goal.returns-in_err-add_all
returns-in_err-add_all c =
    rw (← c.self.view_is) (no_memory c.self.inside.calls.items (RegisterDependencies c.args.dependencies.now) tt c.from_residual-in_err-add_all.result (rw c.in_err-add_all.ensures.memory.0 at (err-of _ _ c.from_residual-in_err-add_all.ensures)))
