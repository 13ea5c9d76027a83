use Rattle.std.proofs.Common.{◌≡◌, map, Ok, sym, ap, ◌∙◌, subst}
use Rattle.std.proofs.lemmas.List.Elements.{All-head, All-tail}
use Rattle.xet_base.specs.Store.{IsValid}
use Rattle.xet_document.specs.steps.AddedMembers.{with_xorbs}
use Rattle.xet_document.specs.steps.Placed.{IsPlaced, placed_xorb}
use Rattle.xet_document.proofs.Adding.{no_xorbs, xorb_stops, xorb_then}
use Rattle.xet_document.proofs.DocumentMembers.{why_refused}
use Rattle.xet_document.proofs.StoreRefusals.{valid_after_xorb}
use Rattle.xet_document.proofs.plain_store.add_xorbs.Goals as goal

pub xorb_at-requires : goal.xorb_at-requires
xorb_at-requires c =
    let own = c.args.xorbs.joined in
    let placed = rw c.in-Some.ensures.steps at c.loop-place.invariant.placed in
    rw (c.in_ok-bytes.ensures.ok, c.as_slice.ensures.value)
    (All-head (λ e. IsPlaced own.bytes.items own.ends.items e.1) (c.in-Some.field-0-0, c.in-Some.place) c.next.new.self placed)

pub returns-then-not-branch : goal.returns-then-not-branch
returns-then-not-branch c =
    let l = c.loop-place in
    let own = c.args.xorbs.joined in
    let xorb = placed_xorb own.bytes.items own.ends.items c.in-Some.place in
    let made : c.in_ok-xorb.xorb ≡ xorb = rw (c.in_ok-bytes.ensures.ok, c.as_slice.ensures.value) at c.in_ok-xorb.ensures in
    let not_added = rw c.if-not-branch.true at c.in_ok-was_added.ensures.added in
    let why = why_refused _ _ (rw made at c.add_joined.ensures.refused) not_added in
    let more = ap (map (λ e. placed_xorb own.bytes.items own.ends.items e.1)) c.in-Some.ensures.steps in
    let rest = map (λ e. placed_xorb own.bytes.items own.ends.items e.1) c.next.new.self in
    xorb_stops c.args.store.now l.store _ xorb rest why.0 (l.invariant.left ∙ ap (with_xorbs l.store) more) why.1

pub loop-place-preserved : goal.loop-place-preserved
loop-place-preserved c =
    let l = c.loop-place in
    let own = c.args.xorbs.joined in
    let place = c.in-Some.place in
    let xorb = placed_xorb own.bytes.items own.ends.items place in
    let made : c.in_ok-xorb.xorb ≡ xorb = rw (c.in_ok-bytes.ensures.ok, c.as_slice.ensures.value) at c.in_ok-xorb.ensures in
    let added : c.add_joined.result ≡ Ok tt = rw c.if-not-branch.false at c.in_ok-was_added.ensures.added in
    let now = rw (added, made) at c.add_joined.ensures.added in
    let accepted = rw (added, made) at c.add_joined.ensures.accepted in
    let more = ap (map (λ e. placed_xorb own.bytes.items own.ends.items e.1)) c.in-Some.ensures.steps in
    let rest = map (λ e. placed_xorb own.bytes.items own.ends.items e.1) c.next.new.self in
    let placed = rw c.in-Some.ensures.steps at l.invariant.placed in record {
      can = tt;
      ends = tt;
      placed = All-tail (λ e. IsPlaced own.bytes.items own.ends.items e.1) (c.in-Some.field-0-0, place) c.next.new.self placed;
      left = l.invariant.left ∙ ap (with_xorbs l.store) more ∙ xorb_then l.store xorb rest ∙ ap (λ s. with_xorbs s rest) (sym now);
      valid = subst IsValid (sym now) (valid_after_xorb l.store xorb l.invariant.valid accepted);
    }

pub returns : goal.returns
returns c =
    let l = c.loop-place in
    let own = c.args.xorbs.joined in
    (sym (l.invariant.left ∙ ap (λ ps. with_xorbs l.store (map (λ e. placed_xorb own.bytes.items own.ends.items e.1) ps)) c.in-None.ensures.steps.0 ∙ no_xorbs l.store), l.invariant.valid)
