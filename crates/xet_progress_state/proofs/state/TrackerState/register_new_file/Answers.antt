use Rattle.std.proofs.Common.{rules, ◌≡◌, ◌+◌, refl, unwrap_or, is_some, arith}
use Rattle.xet_progress_state.specs.declared.step.TrackerStep.TheVariants.{RegisterNewFile}
use Rattle.xet_progress_state.specs.Counts.{all_total}
use Rattle.xet_progress_state.proofs.NewFile.{kept_new_file, kept_count, kept_to}
use Rattle.xet_progress_state.proofs.Passing.{too_great_fits}
use Rattle.xet_progress_state.proofs.Marking.{marked_pushed, marked_to}
use Rattle.xet_progress_state.proofs.Named.{same_names}
use Rattle.xet_progress_state.proofs.state.TrackerState.register_new_file.Goals as goal

pub invariant_of-self-2 : goal.invariant_of-self-2
invariant_of-self-2 c =
    let s = c.self.inside in
    record {
      kept = kept_to (kept_new_file c.args.n_bytes s.calls.items s.files.items s.xorbs s.total s.completed s.sizes c.self.invariant.kept)
          c.and-self-inside.ensures (search rules) refl (search rules) refl refl;
      names = same_names s.calls.items c.and-self-inside.result.items (RegisterNewFile c.args.n_bytes) s.names c.self.invariant.names c.and-self-inside.ensures refl;
      marked = marked_to (marked_pushed s.files.items (record { fixed = is_some c.args.n_bytes; total = unwrap_or c.args.n_bytes 0; registered = 0; completed = 0 }) s.marks c.self.invariant.marked) (search rules);
    }

pub returns : goal.returns
returns c =
    let s = c.self.inside in
    let n = kept_count s.calls.items s.files.items s.xorbs s.total s.completed s.sizes c.self.invariant.kept in
    let fits : c.in-Some.total ≡ s.total + unwrap_or c.args.n_bytes 0 = search rules in
    let total = c.self.invariant.kept.total_is in
    rw (c.and-self-inside.ensures, ← c.self.view_is) (record {
      accepted = (too_great_fits (all_total s.calls.items) (unwrap_or c.args.n_bytes 0) (omega (arith, fits, total)), search (rules, n), refl);
      refused = tt;
    })
