use Rattle.std.proofs.Common.{◌≡◌, ◌++◌, ◌∷◌, [], ap, ◌∙◌}
use Rattle.std.proofs.lemmas.List.Elements.{All-head, All-tail}
use Rattle.xet_base.specs.declared.mdb_shard.Xorb.{Xorb}
use Rattle.xet_document.specs.steps.Placed.{IsPlaced, placed_xorb}
use Rattle.xet_document.proofs.Cutting.{made_all, made_more}
use Rattle.xet_document.proofs.listing.cut_xorbs.Goals as goal

pub cut_xorb-requires : goal.cut_xorb-requires
cut_xorb-requires c =
    let own = c.args.xorbs.joined in
    let placed = rw c.in-Some.ensures.steps at c.loop-place.invariant.placed in
    rw (c.in_ok-bytes.ensures.ok, c.as_slice.ensures.value)
    (All-head (λ e. IsPlaced own.bytes.items own.ends.items e.1) (c.in-Some.field-0-0, c.in-Some.place) c.next.new.self placed)

pub loop-place-preserved : goal.loop-place-preserved
loop-place-preserved c =
    let l = c.loop-place in
    let own = c.args.xorbs.joined in
    let place = c.in-Some.place in
    let xorb = placed_xorb own.bytes.items own.ends.items place in
    let made : c.in_ok-cut_xorb.field-0 ≡ xorb = rw (c.in_ok-bytes.ensures.ok, c.as_slice.ensures.value) at c.in_ok-cut_xorb.ensures in
    let push : c.push.new.self ≡ l.made ++ xorb ∷ [] = c.in_ok-push.ensures.ok ∙ ap (λ (x : Xorb). l.made ++ x ∷ []) made in
    let placed = rw c.in-Some.ensures.steps at l.invariant.placed in record {
      can = tt;
      ends = tt;
      placed = All-tail (λ e. IsPlaced own.bytes.items own.ends.items e.1) (c.in-Some.field-0-0, place) c.next.new.self placed;
      left = made_more (λ e. placed_xorb own.bytes.items own.ends.items e.1) _ l.made c.push.new.self _ c.next.new.self (c.in-Some.field-0-0, place) l.invariant.left c.in-Some.ensures.steps push;
    }

pub returns : goal.returns
returns c =
    let l = c.loop-place in
    let own = c.args.xorbs.joined in
    made_all (λ e. placed_xorb own.bytes.items own.ends.items e.1) _ l.made _ l.invariant.left c.in-None.ensures.steps.0
