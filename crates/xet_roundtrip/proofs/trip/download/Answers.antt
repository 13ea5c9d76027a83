use Rattle.std.proofs.Common.{None, Ok, refl}
use Rattle.xet_roundtrip.proofs.Fetches.{all_calm, only_memory}
use Rattle.xet_roundtrip.proofs.trip.download.Goals as goal

pub returns-in-Ok : goal.returns-in-Ok
returns-in-Ok g c = λ hash is.
    let call = rw c.in-Ok.is at c.download_to_writer.ensures in
    let over = c.in_ok-session.ensures in
    (c.downloads_are_exact.ensures.writer _ _ _ _ c.args.info.now None (Ok c.in-Ok.field-0) hash
    c.args.store.now call is over.over over.cache).took

pub wanting-requires : goal.wanting-requires
wanting-requires g c =
    let sent = c.requires.sent in
    let over = c.in_ok-session.ensures in
    only_memory c.calls_are_complete.ensures sent.0 c.args.info.now c.args.store.now _ _ _ _ sent.1 over
    (all_calm _ (λ x. refl) (λ x. refl) _) refl c.in-Err.error (rw c.in-Err.is at c.download_to_writer.ensures)
