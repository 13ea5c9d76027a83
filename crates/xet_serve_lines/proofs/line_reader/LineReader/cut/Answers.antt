use Rattle.std.proofs.Common.{◌≡◌, ◌≤◌, arith, length, refl}
use Rattle.xet_serve_lines.proofs.Buffers.{begins_long, cut_line, no_line}
use Rattle.xet_serve_lines.proofs.line_reader.LineReader.cut.Goals as goal

pub returns-in-TooLong : goal.returns-in-TooLong
returns-in-TooLong c =
    let same : c.deref.result.now ≡ c.self.inside.buffer.items = c.deref.ensures.value in
    rw (← c.self.view_is) (begins_long _ (rw same at c.in-TooLong.ensures), refl)

pub returns-in-Short : goal.returns-in-Short
returns-in-Short c =
    let same : c.deref.result.now ≡ c.self.inside.buffer.items = c.deref.ensures.value in
    let short = rw same at c.in-Short.ensures in
    rw (← c.self.view_is) (no_line _ short.0 short.1, refl)

pub returns-in-Line : goal.returns-in-Line
returns-in-Line c =
    let s = c.self.inside in
    let inv = c.self.invariant in
    let within : s.end ≤ length s.buffer.items = omega (arith, inv) in
    let same : c.deref.result.now ≡ c.self.inside.buffer.items = c.deref.ensures.value in
    rw (← c.self.view_is) (cut_line _ s.buffer.items s.start s.end c.in-Line.length (rw same at c.in-Line.ensures) within refl)
