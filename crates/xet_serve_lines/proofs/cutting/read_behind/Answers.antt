use Rattle.std.proofs.Common.{◌≡◌, ◌+◌, ◌-◌, arith, drop, length}
use Rattle.std.proofs.lemmas.List.{length-drop, length-take}
use Rattle.xet_serve_lines.proofs.Buffers.{read_err, read_ok}
use Rattle.xet_serve_lines.proofs.cutting.read_behind.Goals as goal

pub returns-in-Ok-clause-call : goal.returns-in-Ok-clause-call
returns-in-Ok-clause-call g c =
    let a = c.args in
    let into = c.read.new.into in
    let d = length-drop a.end a.buffer.now in
    let t = length-take (a.end + a.most - a.end) (drop a.end a.buffer.now) in
    let room = c.requires.room in
    let same = c.read.auto.into in
    let size : length into ≡ a.most = omega (arith, same, d, t, room) in
    read_ok _ _ a.buffer.now into _ a.end a.most c.requires.some size room c.in-Ok.count c.in-Ok.ensures

pub returns-in-Err-clause-call : goal.returns-in-Err-clause-call
returns-in-Err-clause-call g c =
    let a = c.args in
    let into = c.read.new.into in
    let d = length-drop a.end a.buffer.now in
    let t = length-take (a.end + a.most - a.end) (drop a.end a.buffer.now) in
    let room = c.requires.room in
    let same = c.read.auto.into in
    let size : length into ≡ a.most = omega (arith, same, d, t, room) in
    read_err _ _ a.buffer.now into _ a.end a.most c.requires.some size room _ c.in-Err.ensures
