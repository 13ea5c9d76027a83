use Rattle.std.proofs.Common.{◌≡◌, arith, length, rules}
use Rattle.xet_waiting.specs.Waitings.{file_shifted}
use Rattle.xet_waiting.proofs.Kept.{kept-merged, written}
use Rattle.xet_waiting.proofs.aggregator.DataAggregator.merge_in.Goals as goal

pub invariant_of-self-2 : goal.invariant_of-self-2
invariant_of-self-2 c =
    let mine = c.self.inside in
    let more = c.other.inside in
    let by = c.len-before.result in
    let within = rw (← c.self.view_is, ← c.other.view_is) at c.requires.within in
    let size : by ≡ length mine.chunks.items = omega (arith, c.len-before.ensures, mine.chunks.ok.0) in
    let count : more.files.len ≡ length more.files.items = omega (arith, more.files.ok.0) in
    let same : c.as_mut_slice.result.now ≡ more.files.items = search rules in
    let kept = kept-merged mine.chunks.items more.chunks.items mine.infos.items more.infos.items mine.num_bytes more.num_bytes by mine.files.items more.files.items size c.self.invariant c.other.invariant within in
    let files = written (file_shifted by) c.as_mut_slice.result.now more.files.items more.files.len same count in
    rw (
      c.append_reserved-3.ensures,
      c.in_ok-reserve-3.ensures.items,
      c.shift_files.ensures,
      c.append_reserved-2.ensures,
      c.append_reserved.ensures,
      c.in_ok-reserve-2.ensures.items,
      c.in_ok-reserve.ensures.items,
      files,
    ) kept
