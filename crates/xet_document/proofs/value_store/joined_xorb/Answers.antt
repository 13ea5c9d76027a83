use Rattle.std.proofs.Common.{◌≡◌, ◌∙◌, ap, length, arith, ◌++◌, ◌∷◌, [], refl, ℕ}
use Rattle.xet_document.proofs.DocumentChunks.{chunks_end, chunks_more, chunks_stop}
use Rattle.xet_document.proofs.value_store.joined_xorb.Goals as goal

pub loop-item-preserved : goal.loop-item-preserved
loop-item-preserved c =
    let i = c.loop-item.item-index in
    let push : c.push.new.self.items ≡ c.loop-item.ends.items ++ length c.add_chunk.new.bytes.items ∷ [] =
    c.in_ok-push.ensures.items ∙ ap (λ (n : ℕ). c.loop-item.ends.items ++ n ∷ []) (omega (arith, c.len.ensures, c.add_chunk.new.bytes.ok.0)) in
    let m = chunks_more c.args.items.now i c.item-item.result _ c.loop-item.joined.items c.add_chunk.new.bytes.items c.loop-item.ends.items c.push.new.self.items _ c.loop-item-test.true c.item-item.is
    c.in_ok-add_chunk.ensures c.if-not-branch.false push c.loop-item.invariant.ends c.loop-item.invariant.left in
    record { ends = m.0; left = m.1 }

pub returns-then-not-branch : goal.returns-then-not-branch
returns-then-not-branch c =
    let l = c.loop-item in
    let none = chunks_stop c.args.items.now l.item-index c.item-item.result _ l.joined.items c.add_chunk.new.bytes.items _ _ c.loop-item-test.true c.item-item.is c.in_ok-add_chunk.ensures c.if-not-branch.true l.invariant.left in
    rw none refl

pub returns : goal.returns
returns c =
    let l = c.loop-item in
    let all = chunks_end c.args.items.now l.item-index _ _ c.loop-item-test.false l.invariant.left in
    rw (all, c.new.ensures, c.in_ok-from_vec.ensures.ok) refl
