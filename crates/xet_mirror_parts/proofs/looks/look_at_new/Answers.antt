use Rattle.std.proofs.Common.{◌≡◌, true, sym, ◌∙◌}
use Rattle.std.specs.Prelude.{Err}
use Rattle.xet_base.proofs.CallerLemmas.{err-of}
use Rattle.xet_mirror_parts.specs.Errors.{of_client}
use Rattle.xet_mirror_parts.specs.Looked.{is_inside}
use Rattle.xet_mirror_parts.proofs.LookCalls.{look-kept, look-lost, look-unasked, look-unheld, look-unkept, on_shelf}
use Rattle.xet_mirror_parts.proofs.Terms.{good-there, inside-some, is_good, look-inside, look-other, look-refused, look-unfound}
use Rattle.xet_mirror_parts.proofs.looks.look_at_new.Goals as goal

pub returns-in_err-held : goal.returns-in_err-held
returns-in_err-held g c =
    let sb = g.H.Shelf.told c.args.shelf.now in
    let tb = g.T.Uploader.told c.args.target.now in
    let ta = g.T.Uploader.told c.has_xorb.new.self in
    let cb = c.args.copied.now in
    let e : c.from_residual.result ≡ Err (of_client c.in_err-held.field-0.0) = err-of _ _ c.from_residual.ensures in
    rw e (look-unheld c.args.verify c.args.term.now.xorb sb sb tb tb ta cb cb (is_good c.args.term.now) _ c.in_err-held.field-0.0
    (rw c.in_err-held.was at c.has_xorb.ensures))

pub returns-in_err-found : goal.returns-in_err-found
returns-in_err-found g c =
    let sb = g.H.Shelf.told c.args.shelf.now in
    let sa = g.H.Shelf.told c.asked_xorb.new.shelf in
    let tb = g.T.Uploader.told c.args.target.now in
    let ta = g.T.Uploader.told c.has_xorb.new.self in
    let cb = c.args.copied.now in
    let e : c.from_residual-in_err-found.result ≡ Err (of_client c.in_err-found.field-0.0) = err-of _ _ c.from_residual-in_err-found.ensures in
    rw e (look-unasked c.args.verify c.args.term.now.xorb sb sa tb tb ta cb cb (is_good c.args.term.now) _ c.in_ok-held.held c.in_err-found.field-0.0
    (rw c.in_ok-held.was at c.has_xorb.ensures) (rw c.in_err-found.was at c.asked_xorb.ensures.call))

pub returns-in_default : goal.returns-in_default
returns-in_default g c =
    let sb = g.H.Shelf.told c.args.shelf.now in
    let sa = g.H.Shelf.told c.asked_xorb.new.shelf in
    let tb = g.T.Uploader.told c.args.target.now in
    let ta = g.T.Uploader.told c.has_xorb.new.self in
    let cb = c.args.copied.now in
    rw c.not_found.ensures (look-unfound c.args.verify c.args.term.now sb sa tb ta cb cb c.in_ok-held.held
    (look-lost c.args.verify c.args.term.now.xorb sb sa tb tb ta cb cb c.requires c.in_ok-held.held
    (rw c.in_ok-held.was at c.has_xorb.ensures) (rw (c.in_ok-found.was, c.in_default.is) at c.asked_xorb.ensures.call)))

pub returns-then-not-is_inside : goal.returns-then-not-is_inside
returns-then-not-is_inside g c =
    let sb = g.H.Shelf.told c.args.shelf.now in
    let sa = g.H.Shelf.told c.asked_xorb.new.shelf in
    let tb = g.T.Uploader.told c.args.target.now in
    let ta = g.T.Uploader.told c.has_xorb.new.self in
    let cb = c.args.copied.now in
    look-refused c.args.verify c.args.term.now sb sa tb ta cb cb c.in-Some.found
    (rw (c.in_ok-found.was, c.in-Some.is) at c.asked_xorb.ensures.call) c.in_ok-held.held _
    (rw c.in_ok-held.was at c.has_xorb.ensures) (sym c.is_inside.ensures ∙ c.if-not-is_inside.true)

pub returns-in_err-keep : goal.returns-in_err-keep
returns-in_err-keep g c =
    let sb = g.H.Shelf.told c.args.shelf.now in
    let sa = g.H.Shelf.told c.asked_xorb.new.shelf in
    let tb = g.T.Uploader.told c.args.target.now in
    let tm = g.T.Uploader.told c.has_xorb.new.self in
    let ta = g.T.Uploader.told c.keep.new.target in
    let cb = c.args.copied.now in
    let ca = c.keep.new.copied in
    let inside : is_inside c.args.term.now c.in-Some.found ≡ true = sym c.is_inside.ensures ∙ c.if-not-is_inside.false in
    let e : c.from_residual-in_err-keep.result ≡ Err c.in_err-keep.field-0.0 = err-of _ _ c.from_residual-in_err-keep.ensures in
    rw e (look-other c.args.verify c.args.term.now.xorb (on_shelf c.args.term.now.xorb) (is_good c.args.term.now) sb sa tb ta cb ca c.in_err-keep.field-0.0
    (good-there c.args.term.now) (look-unkept c.args.verify c.args.term.now.xorb sb sa tb tm ta cb ca c.requires c.in_ok-held.held c.in-Some.found
    (rw c.in_ok-held.was at c.has_xorb.ensures) (rw (c.in_ok-found.was, c.in-Some.is) at c.asked_xorb.ensures.call)
    (rw (c.in_ok-found.was, c.in-Some.is) at c.asked_xorb.ensures.own) (inside-some c.args.term.now c.in-Some.found inside)
    c.in_err-keep.field-0.0 (rw c.in_err-keep.was at c.keep.ensures)))

pub returns : goal.returns
returns g c =
    let sb = g.H.Shelf.told c.args.shelf.now in
    let sa = g.H.Shelf.told c.asked_xorb.new.shelf in
    let tb = g.T.Uploader.told c.args.target.now in
    let tm = g.T.Uploader.told c.has_xorb.new.self in
    let ta = g.T.Uploader.told c.keep.new.target in
    let cb = c.args.copied.now in
    let ca = c.keep.new.copied in
    let inside : is_inside c.args.term.now c.in-Some.found ≡ true = sym c.is_inside.ensures ∙ c.if-not-is_inside.false in
    look-inside c.args.verify c.args.term.now sb sa tb ta cb ca c.in-Some.found
    (rw (c.in_ok-found.was, c.in-Some.is) at c.asked_xorb.ensures.call) inside
    (look-kept c.args.verify c.args.term.now.xorb sb sa tb tm ta cb ca c.requires c.in_ok-held.held c.in-Some.found
    (rw c.in_ok-held.was at c.has_xorb.ensures) (rw (c.in_ok-found.was, c.in-Some.is) at c.asked_xorb.ensures.call)
    (rw (c.in_ok-found.was, c.in-Some.is) at c.asked_xorb.ensures.own) (inside-some c.args.term.now c.in-Some.found inside)
    (rw c.in_ok-keep.was at c.keep.ensures))
