use Rattle.std.proofs.Common.{◌≡◌, get_or, true, false}
use Rattle.std.specs.Prelude.{Err}
use Rattle.xet_base.proofs.CallerLemmas.{err-of}
use Rattle.xet_mirror_parts.proofs.Terms.{no_term, self-at, terms-all, terms-bad, terms-failed, terms-more, terms-none}
use Rattle.xet_mirror_parts.proofs.looks.look_at_terms.Goals as goal

pub loop-entry-init : goal.loop-entry-init
loop-entry-init g c =
    terms-none c.args.verify c.args.terms.now (g.H.Shelf.told c.args.shelf.now) (g.T.Uploader.told c.args.target.now) c.args.copied.now

pub returns-in_err-look_at_term : goal.returns-in_err-look_at_term
returns-in_err-look_at_term g c =
    let hs = g.H.Shelf.told in
    let ts = g.T.Uploader.told in
    let e : c.from_residual.result ≡ Err c.in_err-look_at_term.field-0.0 = err-of _ _ c.from_residual.ensures in
    rw e (terms-failed c.args.verify c.args.terms.now c.loop-entry.entry (get_or c.args.terms.now c.loop-entry.entry no_term) c.loop-entry-test.true (self-at c.args.terms.now c.loop-entry.entry no_term c.loop-entry-test.true)
    (hs c.args.shelf.now) (hs c.loop-entry.shelf) (hs c.look_at_term.new.shelf) (ts c.args.target.now) (ts c.loop-entry.target) (ts c.look_at_term.new.target)
    c.args.copied.now c.loop-entry.copied c.look_at_term.new.copied c.loop-entry.invariant c.in_err-look_at_term.field-0.0
    (rw c.in_err-look_at_term.was at c.look_at_term.ensures))

pub returns-then-not-branch : goal.returns-then-not-branch
returns-then-not-branch g c =
    let hs = g.H.Shelf.told in
    let ts = g.T.Uploader.told in
    let e : c.in_ok-look_at_term.field-0 ≡ false = c.if-not-branch.true in
    terms-bad c.args.verify c.args.terms.now c.loop-entry.entry (get_or c.args.terms.now c.loop-entry.entry no_term) c.loop-entry-test.true (self-at c.args.terms.now c.loop-entry.entry no_term c.loop-entry-test.true)
    (hs c.args.shelf.now) (hs c.loop-entry.shelf) (hs c.look_at_term.new.shelf) (ts c.args.target.now) (ts c.loop-entry.target) (ts c.look_at_term.new.target)
    c.args.copied.now c.loop-entry.copied c.look_at_term.new.copied c.loop-entry.invariant (rw (c.in_ok-look_at_term.was, e) at c.look_at_term.ensures)

pub loop-entry-preserved : goal.loop-entry-preserved
loop-entry-preserved g c =
    let hs = g.H.Shelf.told in
    let ts = g.T.Uploader.told in
    let e : c.in_ok-look_at_term.field-0 ≡ true = c.if-not-branch.false in
    terms-more c.args.verify c.args.terms.now c.loop-entry.entry (get_or c.args.terms.now c.loop-entry.entry no_term) c.loop-entry-test.true (self-at c.args.terms.now c.loop-entry.entry no_term c.loop-entry-test.true)
    (hs c.args.shelf.now) (hs c.loop-entry.shelf) (hs c.look_at_term.new.shelf) (ts c.args.target.now) (ts c.loop-entry.target) (ts c.look_at_term.new.target)
    c.args.copied.now c.loop-entry.copied c.look_at_term.new.copied c.loop-entry.invariant (rw (c.in_ok-look_at_term.was, e) at c.look_at_term.ensures)

pub returns : goal.returns
returns g c =
    let hs = g.H.Shelf.told in
    let ts = g.T.Uploader.told in
    terms-all c.args.verify c.args.terms.now c.loop-entry.entry (hs c.args.shelf.now) (hs c.loop-entry.shelf) (ts c.args.target.now) (ts c.loop-entry.target)
    c.args.copied.now c.loop-entry.copied c.loop-entry-test.false c.loop-entry.invariant
