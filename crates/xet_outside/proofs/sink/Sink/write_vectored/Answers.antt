use Rattle.std.proofs.Common.{rules, ◌≡◌, ◌+◌, ◌<◌, ◌++◌, List, ℕ, ap, ◌∙◌, length, drop}
use Rattle.std.specs.List.{concat}
use Rattle.std.proofs.Math.ListN.{get_or}
use Rattle.xet_outside.proofs.VectoredWrites.{left_is, rest_after, step_within, step_took, step_part, step_failed}
use Rattle.xet_outside.proofs.sink.Sink.write_vectored.Goals as goal

pub returns-then-count-len : goal.returns-then-count-len
returns-then-count-len g c =
    let told = g.Self.Sink.told in
    let i = c.loop-piece.invariant in
    let ps = c.args.pieces.now in
    let at = c.loop-piece.piece-index in
    let r = c.piece-item.result in
    let p = c.as_slice.result.now in
    let rest = concat (drop (at + 1) ps) in
    let l : at < length ps = search rules in
    let q : get_or ps at r ≡ p = search rules in
    let e : drop c.loop-piece.taken (concat ps) ≡ p ++ rest = left_is ps at c.loop-piece.taken r l i.left ∙ ap (λ (us : List ℕ). us ++ rest) q in
    let k : c.in-Ok.count < length p = search rules in
    step_part (told c.args.self.now) (told c.loop-piece.self) (told c.write.new.self) (concat ps) p rest c.loop-piece.taken c.in-Ok.count e k i.took i.flushed i.link i.faults (rw c.in-Ok.is at c.write.ensures)

pub returns-in-Err-Failed : goal.returns-in-Err-Failed
returns-in-Err-Failed g c =
    let told = g.Self.Sink.told in
    let i = c.loop-piece.invariant in
    let ps = c.args.pieces.now in
    let at = c.loop-piece.piece-index in
    let r = c.piece-item.result in
    let p = c.as_slice.result.now in
    let rest = concat (drop (at + 1) ps) in
    let l : at < length ps = search rules in
    let q : get_or ps at r ≡ p = search rules in
    let e : drop c.loop-piece.taken (concat ps) ≡ p ++ rest = left_is ps at c.loop-piece.taken r l i.left ∙ ap (λ (us : List ℕ). us ++ rest) q in
    let h = rw c.in-Err-Failed.is at c.write.ensures in
    step_failed (told c.args.self.now) (told c.loop-piece.self) (told c.write.new.self) (concat ps) p rest c.loop-piece.taken i.in_range e i.took i.flushed i.link i.faults (rw c.in-Err-Failed.field-0-is at h)

pub loop-piece-preserved : goal.loop-piece-preserved
loop-piece-preserved g c =
    let told = g.Self.Sink.told in
    let i = c.loop-piece.invariant in
    let ps = c.args.pieces.now in
    let at = c.loop-piece.piece-index in
    let r = c.piece-item.result in
    let p = c.as_slice.result.now in
    let rest = concat (drop (at + 1) ps) in
    let l : at < length ps = search rules in
    let q : get_or ps at r ≡ p = search rules in
    let e : drop c.loop-piece.taken (concat ps) ≡ p ++ rest = left_is ps at c.loop-piece.taken r l i.left ∙ ap (λ (us : List ℕ). us ++ rest) q in
    let h = rw c.in-Ok.is at c.write.ensures in
    let n = h.count in
    let k : c.in-Ok.count ≡ length p = search rules in
    record {
      in_range = step_within (concat ps) p rest c.loop-piece.taken c.in-Ok.count i.in_range e h.count;
      left = rw k (rest_after (concat ps) p rest c.loop-piece.taken e);
      took = step_took (told c.args.self.now).took (told c.loop-piece.self).took (told c.write.new.self).took (concat ps) p rest c.loop-piece.taken c.in-Ok.count e h.count i.took h.took;
      flushed = search rules;
      link = search rules;
      faults = search rules;
    }
