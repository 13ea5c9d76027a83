use Rattle.std.proofs.Common.{◌≤◌, arith, length, slice_range}
use Rattle.xet_serve_lines.proofs.Buffers.{part_length}
use Rattle.xet_serve_lines.proofs.line_reader.LineReader.fill.Goals as goal

pub room_for-most-requires : goal.room_for-most-requires
room_for-most-requires g c =
    let s = c.self.inside in
    let inv = c.self.invariant in
    let within : s.end ≤ length s.buffer.items = omega (arith, inv) in
    let size = part_length s.buffer.items s.start s.end within in
    let short : length (slice_range s.buffer.items s.start s.end) ≤ 1024 =
    rw (← c.self.view_is) at c.requires.waiting.short in
    let count = c.move_to_front-self-inside.ensures.count in
    omega (arith, size, short, count)
