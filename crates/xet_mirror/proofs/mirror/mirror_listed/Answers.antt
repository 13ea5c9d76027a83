use Rattle.std.proofs.Common.{◌≡◌, get_or, take_all}
use Rattle.std.specs.Prelude.{Err}
use Rattle.xet_base.proofs.CallerLemmas.{err-of}
use Rattle.xet_mirror.proofs.Mirrorings.{mirror-done, mirror-failed, mirroring-more, mirroring-none, no_hash, self-at}
use Rattle.xet_mirror.proofs.mirror.mirror_listed.Goals as goal

pub loop-place-init : goal.loop-place-init
loop-place-init g c =
    mirroring-none c.args.verify c.args.files.now (g.H.Shelf.told c.args.shelf.now) (g.T.Uploader.told c.args.target.now) c.args.copied.now c.requires

pub loop-place-preserved : goal.loop-place-preserved
loop-place-preserved g c =
    let hs = g.H.Shelf.told in
    let ts = g.T.Uploader.told in
    mirroring-more c.args.verify c.args.files.now c.loop-place.place (get_or c.args.files.now c.loop-place.place no_hash) c.loop-place-test.true
    (self-at c.args.files.now c.loop-place.place no_hash c.loop-place-test.true)
    (hs c.args.shelf.now) (hs c.loop-place.shelf) (hs c.mirror_file.new.shelf) (ts c.args.target.now) (ts c.loop-place.target) (ts c.mirror_file.new.target)
    c.loop-place.copied c.mirror_file.new.copied c.loop-place.invariant (rw c.in_ok-mirror_file.was at c.mirror_file.ensures)

pub returns-in_err-mirror_file : goal.returns-in_err-mirror_file
returns-in_err-mirror_file g c =
    let hs = g.H.Shelf.told in
    let ts = g.T.Uploader.told in
    let e : c.from_residual.result ≡ Err c.in_err-mirror_file.field-0.0 = err-of _ _ c.from_residual.ensures in
    rw e (mirror-failed c.args.verify c.args.files.now c.loop-place.place (get_or c.args.files.now c.loop-place.place no_hash) c.loop-place-test.true
    (self-at c.args.files.now c.loop-place.place no_hash c.loop-place-test.true)
    (hs c.args.shelf.now) (hs c.loop-place.shelf) (hs c.mirror_file.new.shelf) (ts c.args.target.now) (ts c.loop-place.target) (ts c.mirror_file.new.target)
    c.loop-place.copied c.mirror_file.new.copied c.loop-place.invariant c.in_err-mirror_file.field-0.0 (rw c.in_err-mirror_file.was at c.mirror_file.ensures))

pub returns : goal.returns
returns g c =
    let hs = g.H.Shelf.told in
    let ts = g.T.Uploader.told in
    mirror-done c.args.verify c.args.files.now _ (hs c.args.shelf.now) (hs c.loop-place.shelf) (ts c.args.target.now) (ts c.loop-place.target)
    c.loop-place.copied (take_all c.loop-place.place c.args.files.now c.loop-place-test.false) c.loop-place.invariant
