use Rattle.std.proofs.Common.{◌∙◌, ap, sym}
use Rattle.serde_json.specs.View.{items_view}
use Rattle.xet_audit.specs.Raws.{chunks_of_items}
use Rattle.xet_audit.proofs.Members.{items_end, items_next, rest_ends, rest_more, rest_start, with_rest}
use Rattle.xet_audit.proofs.raw_value.fill_chunks.Goals as goal

pub loop-item-init : goal.loop-item-init
loop-item-init c = record { left = rest_start c.args.chunks.now (chunks_of_items (items_view c.args.items.now)) c.requires.none; empty = c.requires.empty }

pub raw_chunk-requires : goal.raw_chunk-requires
raw_chunk-requires c = c.loop-item.invariant.empty

pub loop-item-preserved : goal.loop-item-preserved
loop-item-preserved c =
    let l = c.loop-item in
    let vs = c.args.items.now in
    let i = l.item-index in
    let done = rw c.in-Some.is at c.in_ok-chunk.ensures in
    record {
      left = rest_more _ l.chunks c.push.new.self _ _ c.in-Some.chunk (l.invariant.left ∙ ap (with_rest l.chunks) (items_next vs i c.item-item.result c.loop-item-test.true c.item-item.is)) (sym done.chunk) c.in_ok-push.ensures.ok;
      empty = done.empty;
    }

pub returns : goal.returns
returns c =
    let l = c.loop-item in
    sym (rest_ends _ l.chunks _ l.invariant.left (items_end c.args.items.now l.item-index c.loop-item-test.false))
