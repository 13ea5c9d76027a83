use Rattle.std.proofs.Common.{refl}
use Rattle.xet_serve_lines.proofs.Buffers.{no_part}
use Rattle.xet_serve_lines.proofs.line_reader.LineReader.take_rest.Goals as goal

pub returns : goal.returns
returns c = rw (← c.self.view_is) (record { line = refl; pending = no_part c.self.inside.buffer.items c.self.inside.end; read = refl })
