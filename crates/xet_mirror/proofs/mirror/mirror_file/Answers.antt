use Rattle.std.proofs.Common.{◌≡◌}
use Rattle.std.specs.Prelude.{Err}
use Rattle.xet_base.proofs.CallerLemmas.{err-of}
use Rattle.xet_mirror_parts.specs.Errors.{of_client}
use Rattle.xet_mirror.proofs.FileParts.{file-copied, file-missing, file-present, file-unasked, file-unheld}
use Rattle.xet_mirror.proofs.mirror.mirror_file.Goals as goal

pub returns-in_err-has_file : goal.returns-in_err-has_file
returns-in_err-has_file g c =
    let hs = g.H.Shelf.told in
    let ts = g.T.Uploader.told in
    let e : c.from_residual.result ≡ Err (of_client c.in_err-has_file.field-0.0) = err-of _ _ c.from_residual.ensures in
    rw e (file-unheld c.args.verify c.args.place c.args.file.now (hs c.args.shelf.now) (hs c.args.shelf.now) (ts c.args.target.now) (ts c.has_file.new.self) c.args.copied.now
    c.in_err-has_file.field-0.0 (rw c.in_err-has_file.was at c.has_file.ensures))

pub returns-then-branch : goal.returns-then-branch
returns-then-branch g c =
    let hs = g.H.Shelf.told in
    let ts = g.T.Uploader.told in
    rw c.with_present-copied.ensures (file-present c.args.verify c.args.place c.args.file.now (hs c.args.shelf.now) (hs c.args.shelf.now) (ts c.args.target.now) (ts c.has_file.new.self) c.args.copied.now
    (rw (c.in_ok-has_file.was, c.if-branch.true) at c.has_file.ensures))

pub returns-in_err-found : goal.returns-in_err-found
returns-in_err-found g c =
    let hs = g.H.Shelf.told in
    let ts = g.T.Uploader.told in
    let e : c.from_residual-in_err-found.result ≡ Err (of_client c.in_err-found.field-0.0) = err-of _ _ c.from_residual-in_err-found.ensures in
    rw e (file-unasked c.args.verify c.args.place c.args.file.now (hs c.args.shelf.now) (hs c.asked_file.new.shelf) (ts c.args.target.now) (ts c.has_file.new.self) c.args.copied.now
    c.in_ok-has_file.field-0 c.in_err-found.field-0.0 (rw c.in_ok-has_file.was at c.has_file.ensures) (rw c.in_err-found.was at c.asked_file.ensures.call))

pub returns-in_default : goal.returns-in_default
returns-in_default g c =
    let hs = g.H.Shelf.told in
    let ts = g.T.Uploader.told in
    file-missing c.args.verify c.args.place c.args.file.now (hs c.args.shelf.now) (hs c.asked_file.new.shelf) (ts c.args.target.now) (ts c.has_file.new.self) c.args.copied.now
    (rw (c.in_ok-has_file.was, c.if-branch.false) at c.has_file.ensures) (rw (c.in_ok-found.was, c.in_default.is) at c.asked_file.ensures.call)

pub returns : goal.returns
returns g c =
    let hs = g.H.Shelf.told in
    let ts = g.T.Uploader.told in
    file-copied c.args.verify c.args.place c.args.file.now (hs c.args.shelf.now) (hs c.asked_file.new.shelf) (hs c.copy_file.new.shelf)
    (ts c.args.target.now) (ts c.has_file.new.self) (ts c.copy_file.new.target) c.args.copied.now c.copy_file.new.copied c.in-Some.found
    (rw (c.in_ok-has_file.was, c.if-branch.false) at c.has_file.ensures) (rw (c.in_ok-found.was, c.in-Some.is) at c.asked_file.ensures.call)
    (rw (c.in_ok-found.was, c.in-Some.is) at c.asked_file.ensures.own) c.copy_file.result c.copy_file.ensures
