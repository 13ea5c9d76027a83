use Rattle.std.proofs.Common.{[], sym, ◌∙◌, arith}
use Rattle.std.specs.Prelude.{false}
use Rattle.xet_progress_state.specs.declared.step.FileXorbDependency.{FileXorbDependency}
use Rattle.xet_progress_state.proofs.Counting.{turn_counted, turn_ends, turn_rest, turn_small, turn_within}
use Rattle.xet_progress_state.proofs.depend.count_in.Goals as goal

abbrev blank : FileXorbDependency
blank = record { file_id = 0; xorb_hash = record { 0 = [] }; n_bytes = 0; is_external = false }

pub overflow_add-index_mut : goal.overflow_add-index_mut
overflow_add-index_mut c =
    let l = c.loop-at in
    let small = turn_small c.args.files.now.items l.files.items c.args.dependencies.now l.at blank c.index.result.now l.invariant.counted c.loop-at-test.true c.requires.known c.index.ensures
    c.index_mut.result.now c.index_mut.ensures.value (rw c.in_default.is at c.refusal.ensures.fits) in
    omega (arith, small)

pub loop-at-preserved : goal.loop-at-preserved
loop-at-preserved c =
    let l = c.loop-at in
    record {
      counted = turn_counted c.args.files.now.items l.files.items c.args.dependencies.now l.at blank c.index.result.now l.invariant.counted c.loop-at-test.true c.requires.known c.index.ensures
          c.index_mut.result.now c.index_mut.ensures.value;
      rest = turn_rest c.args.files.now.items l.files.items c.args.dependencies.now l.at blank c.index.result.now l.invariant.counted c.loop-at-test.true c.requires.known c.index.ensures
          l.invariant.rest (sym c.refusal.ensures.refused ∙ c.in_default.is);
      within = turn_within c.args.files.now.items l.files.items c.args.dependencies.now l.at blank c.index.result.now l.invariant.counted c.loop-at-test.true c.requires.known c.index.ensures
          c.index_mut.result.now c.index_mut.ensures.value (sym c.refusal.ensures.refused ∙ c.in_default.is) l.invariant.within;
    }

pub returns-in-Some : goal.returns-in-Some
returns-in-Some c =
    let l = c.loop-at in (
      omega arith,
      l.invariant.counted,
      turn_ends c.args.files.now.items l.files.items c.args.dependencies.now l.at blank c.index.result.now l.invariant.counted c.loop-at-test.true c.requires.known c.index.ensures
          c.in-Some.why l.invariant.rest (sym c.refusal.ensures.refused ∙ c.in-Some.is),
    )
