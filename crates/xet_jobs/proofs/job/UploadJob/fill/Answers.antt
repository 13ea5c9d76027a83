use Rattle.std.proofs.Common.{refl, arith, length, ◌≡◌}
use Rattle.std.specs.Vec.{with_items}
use Rattle.std.proofs.lemmas.List.{with_items_is}
use Rattle.xet_jobs.specs.Jobs.{piece_size}
use Rattle.xet_jobs.proofs.Stepping.{filled, unfilled}
use Rattle.xet_jobs.proofs.job.UploadJob.fill.Goals as goal

pub returns-in-Err-clause-call : goal.returns-in-Err-clause-call
returns-in-Err-clause-call g c =
    rw c.from.ensures (unfilled _ _ _ _ c.in-Err.ensures.err
    (rw (c.in-Err.ensures.ended, c.in-Err.ensures.unread, c.requires.1) refl))

pub returns-in-Ok-clause-call : goal.returns-in-Ok-clause-call
returns-in-Ok-clause-call g c =
    let before = c.args.self.now in
    let read = c.read_piece.new.buffer in
    let room : length read ≡ piece_size =
    omega (arith, c.read_piece.auto.buffer, c.as_mut_slice-buffer.ensures.len, before.room) in
    let size : length read ≡ before.buffer.len = omega (arith, room, before.room) in
    let kept : (with_items before.buffer read).items ≡ read = with_items_is before.buffer read size in
    filled _ _ _ _ room c.in-Ok.ensures.ok (rw (c.in-Ok.ensures.kept, kept) refl)
