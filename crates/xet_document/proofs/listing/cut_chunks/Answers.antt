use Rattle.std.proofs.Common.{◌≡◌, ◌++◌, ◌∷◌, [], List, ℕ, ap, get_or, sym, ◌∙◌}
use Rattle.std.specs.Prelude.{slice_range}
use Rattle.xet_document.proofs.Cutting.{cut_all, cut_more, cut_order, cut_rest, cut_within, number_at}
use Rattle.xet_document.proofs.listing.cut_chunks.Goals as goal

pub slice-requires-clause-start_le_end : goal.slice-requires-clause-start_le_end
slice-requires-clause-start_le_end c =
    let l = c.loop-end in
    cut_order c.args.bytes.now c.args.ends.now l.start l.end-index (get_or c.args.ends.now c.loop-end.end-index 0) l.chunks c.loop-end-test.true (number_at c.args.ends.now c.loop-end.end-index c.loop-end-test.true) l.invariant.fill

pub slice-requires-clause-in_bounds : goal.slice-requires-clause-in_bounds
slice-requires-clause-in_bounds c =
    let l = c.loop-end in
    cut_within c.args.bytes.now c.args.ends.now l.start l.end-index (get_or c.args.ends.now c.loop-end.end-index 0) l.chunks c.loop-end-test.true (number_at c.args.ends.now c.loop-end.end-index c.loop-end-test.true) l.invariant.fill

pub loop-end-preserved : goal.loop-end-preserved
loop-end-preserved c =
    let l = c.loop-end in
    let bytes = c.args.bytes.now in
    let ends = c.args.ends.now in
    let e = (get_or c.args.ends.now c.loop-end.end-index 0) in
    let push : c.push.new.self ≡ l.chunks ++ slice_range bytes l.start e ∷ [] =
    c.in_ok-push.ensures.ok ∙ ap (λ (x : List ℕ). l.chunks ++ x ∷ []) c.in_ok-slice.ensures.ok in
    record {
      fill = cut_rest bytes ends l.start l.end-index e l.chunks c.loop-end-test.true (number_at c.args.ends.now c.loop-end.end-index c.loop-end-test.true) l.invariant.fill;
      left = rw push (cut_more bytes ends l.start l.end-index e l.chunks c.loop-end-test.true (number_at c.args.ends.now c.loop-end.end-index c.loop-end-test.true) l.invariant.fill l.invariant.left);
    }

pub returns : goal.returns
returns c =
    let l = c.loop-end in
    sym (cut_all c.args.bytes.now c.args.ends.now l.start l.end-index l.chunks c.loop-end-test.false l.invariant.left)
