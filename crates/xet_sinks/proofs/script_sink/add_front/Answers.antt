use Rattle.std.proofs.Common.{rules, ◌≡◌, ◌+◌, ◌-◌, ◌++◌, length, min, take, ap, sym, ◌∙◌, List, ℕ, append_assoc}
use Rattle.std.specs.List.{concat}
use Rattle.xet_base.proofs.CallerLemmas.{concat_more}
use Rattle.xet_sinks.proofs.JoinedFronts.{front_more, front_count}
use Rattle.xet_sinks.proofs.script_sink.add_front.Goals as goal

pub loop-piece-preserved : goal.loop-piece-preserved
loop-piece-preserved c =
    let ps = c.args.pieces.now in
    let i = c.loop-piece.piece-index in
    let p = c.piece-item.result in
    let inv = c.loop-piece.invariant in
    let part0 : c.min-part.result ≡ min (length p) (c.args.count - c.loop-piece.added) = search rules in
    let part : c.min-part.result ≡ min (length p) (c.args.count - min c.args.count (length (concat (take i ps)))) = rw
    inv.added at part0 in
    let grown : c.extend_from_slice.new.self.items ≡ c.loop-piece.taken.items ++ take c.min-part.result p = search
    rules in
    let e : concat (take (i + 1) ps) ≡ concat (take i ps) ++ p = concat_more ps i p c.loop-piece-test.true ∙ ap
    (λ (l : List ℕ). concat (take i ps) ++ l) (sym c.piece-item.is) in
    record {
      added = rw (inv.added, part, e) (front_count (concat (take i ps)) p c.args.count);
      taken = grown ∙ rw (inv.taken, part, e, append_assoc)
          (ap (λ (l : List ℕ). c.args.taken.now.items ++ l) (front_more (concat (take i ps)) p c.args.count));
    }
