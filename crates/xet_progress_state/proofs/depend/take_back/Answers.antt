use Rattle.std.proofs.Common.{[], ◌<◌, length, get_or, arith}
use Rattle.std.specs.Prelude.{false}
use Rattle.xet_progress_state.specs.declared.step.FileXorbDependency.{FileXorbDependency}
use Rattle.xet_progress_state.proofs.Counting.{has_enough, left_less, taken_more}
use Rattle.xet_progress_state.proofs.depend.take_back.Goals as goal

abbrev blank : FileXorbDependency
blank = record { file_id = 0; xorb_hash = record { 0 = [] }; n_bytes = 0; is_external = false }

pub loop-dependency-preserved : goal.loop-dependency-preserved
loop-dependency-preserved c =
    let l = c.loop-dependency in
    let known = c.requires.known l.dependency-index blank c.loop-dependency-test.true in
    let len = l.invariant.taken.count in
    let inside : (get_or c.args.dependencies.now l.dependency-index blank).file_id < length l.files.items = omega (arith, known, len) in
    let enough = has_enough l.files.items c.args.dependencies.now l.dependency-index blank c.index_mut.result.now l.invariant.rest c.loop-dependency-test.true inside c.index_mut.ensures.value in
    record {
      taken = taken_more c.args.files.now.items l.files.items c.args.dependencies.now l.dependency-index blank c.index_mut.result.now l.invariant.taken c.loop-dependency-test.true inside c.index_mut.ensures.value enough;
      rest = left_less l.files.items c.args.dependencies.now l.dependency-index blank c.index_mut.result.now l.invariant.rest c.loop-dependency-test.true inside c.index_mut.ensures.value;
    }
