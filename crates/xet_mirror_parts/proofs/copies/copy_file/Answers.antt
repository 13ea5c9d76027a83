use Rattle.std.proofs.Common.{◌≡◌}
use Rattle.std.specs.Prelude.{Err}
use Rattle.xet_base.proofs.CallerLemmas.{err-of}
use Rattle.xet_mirror_parts.proofs.Files.{copy-bad, copy-failed, copy-put}
use Rattle.xet_mirror_parts.proofs.copies.copy_file.Goals as goal

pub returns-in_err-entry : goal.returns-in_err-entry
returns-in_err-entry g c =
    let hs = g.H.Shelf.told in
    let ts = g.T.Uploader.told in
    let e : c.from_residual.result ≡ Err c.in_err-entry.field-0.0 = err-of _ _ c.from_residual.ensures in
    rw e (copy-failed c.args.verify c.args.place c.args.file (hs c.args.shelf.now) (hs c.args.shelf.now) (hs c.look_at_terms.new.shelf)
    (ts c.args.target.now) (ts c.args.target.now) (ts c.look_at_terms.new.target) c.args.copied.now c.args.copied.now c.look_at_terms.new.copied c.in_err-entry.field-0.0
    (rw (c.in_err-entry.was, c.as_slice-terms.ensures) at c.look_at_terms.ensures))

pub returns-in-Some : goal.returns-in-Some
returns-in-Some g c =
    let hs = g.H.Shelf.told in
    let ts = g.T.Uploader.told in
    copy-bad c.args.verify c.args.place c.args.file (hs c.args.shelf.now) (hs c.args.shelf.now) (hs c.look_at_terms.new.shelf)
    (ts c.args.target.now) (ts c.args.target.now) (ts c.look_at_terms.new.target) c.args.copied.now c.args.copied.now c.look_at_terms.new.copied c.in-Some.entry
    (rw (c.in_ok-entry.was, c.in-Some.is, c.as_slice-terms.ensures) at c.look_at_terms.ensures)

pub returns-in-None : goal.returns-in-None
returns-in-None g c =
    let hs = g.H.Shelf.told in
    let ts = g.T.Uploader.told in
    copy-put c.args.verify c.args.place c.args.file (hs c.args.shelf.now) (hs c.look_at_terms.new.shelf)
    (ts c.args.target.now) (ts c.look_at_terms.new.target) (ts c.put_record.new.target) c.args.copied.now c.look_at_terms.new.copied c.put_record.new.copied
    (rw (c.in_ok-entry.was, c.in-None.is, c.as_slice-terms.ensures) at c.look_at_terms.ensures) c.put_record.result c.put_record.ensures
