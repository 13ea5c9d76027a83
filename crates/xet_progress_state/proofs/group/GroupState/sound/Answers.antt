use Rattle.std.proofs.Common.{rules, ap, ◌<◌, ◌^◌, arith}
use Rattle.xet_progress_state.specs.declared.item.GroupProgressReport.{GroupProgressReport}
use Rattle.xet_progress_state.proofs.group.GroupState.sound.Goals as goal

pub returns-clause-sound : goal.returns-clause-sound
returns-clause-sound c =
    let s = c.self.inside in
    let t = ap (λ (r : GroupProgressReport). r.total_bytes) c.self.invariant.sums_are in
    let x = ap (λ (r : GroupProgressReport). r.total_transfer_bytes) c.self.invariant.sums_are in
    let a : s.sums.total_bytes < 2 ^ 64 = search rules in
    let b : s.sums.total_transfer_bytes < 2 ^ 64 = search rules in
    rw (← c.self.view_is) (record {
      within = c.self.invariant.within;
      bytes = omega (arith, t, a);
      transfer = omega (arith, x, b);
      ordered = c.len.ensures.ordered;
    })
