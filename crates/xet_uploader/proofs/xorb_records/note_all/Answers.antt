use Rattle.std.proofs.Common.{◌≡◌, ◌+◌, ◌-◌, Err, arith, length, refl}
use Rattle.xet_base.proofs.CallerLemmas.{err-of}
use Rattle.xet_uploader.proofs.NotedChunks.{kept-both, noted-back, noted-kept}
use Rattle.xet_uploader.proofs.xorb_records.note_all.Goals as goal

pub returns-in_err-note-clause-err : goal.returns-in_err-note-clause-err
returns-in_err-note-clause-err c =
    let records = c.args.records.now in
    let chunks = c.args.chunks.now in
    let before = noted-kept records chunks (length chunks - c.loop-noted.noted) c.args.places.now c.loop-noted.places c.loop-noted.invariant in
    let e : c.from_residual.result ≡ Err c.in_err-note.field-0.0 = err-of _ _ c.from_residual.ensures in
    rw e (kept-both records c.args.places.now c.loop-noted.places c.note.new.places before c.in_err-note.ensures.err)

pub loop-noted-preserved : goal.loop-noted-preserved
loop-noted-preserved c =
    let chunks = c.args.chunks.now in
    noted-back c.args.records.now chunks (length chunks - (c.loop-noted.noted + 1)) _ (length chunks - c.loop-noted.noted) _ _ c.args.places.now c.loop-noted.places c.note.new.places
    (omega (arith, c.loop-noted-test.true)) (omega (arith, c.loop-noted-test.true)) (omega (arith, c.loop-noted-test.true)) refl c.loop-noted.invariant c.in_ok-note.ensures.ok
