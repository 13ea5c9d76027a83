use Rattle.std.proofs.Common.{rules, ◌≡◌, ◌<◌, ◌++◌, [], true, false, get_or, length, ap, sym, ◌∙◌, arith}
use Rattle.std.specs.Prelude.{is_some}
use Rattle.std.proofs.lemmas.List.{get_or_default}
use Rattle.xet_queue.proofs.Lent.{back_one, kept_one, same_length, some_piece}
use Rattle.xet_queue.proofs.lending.put_one.Goals as goal

pub returns-then-is_some-clause-back : goal.returns-then-is_some-clause-back
returns-then-is_some-clause-back c ts ps p d e f g =
    let qs = c.args.queue.now.items in
    let t = c.index.result.now in
    let h : c.args.place < length qs = c.requires in
    let x : t ≡ get_or qs c.args.place t = search rules in
    let y : t ≡ get_or qs c.args.place d = x ∙ get_or_default qs c.args.place t d h in
    let s : is_some t.bytes ≡ true = search rules in
    let l = ap length e ∙ same_length ts c.args.place in
    kept_one ts qs c.args.place p ps c.args.pieces.now.items d (omega arith) e f g (ap (λ u. is_some u.bytes) (sym y) ∙ s)

pub returns-in-Some-clause-back : goal.returns-in-Some-clause-back
returns-in-Some-clause-back c ts ps p d e f g =
    let qs = c.args.queue.now.items in
    let t = c.index.result.now in
    let h : c.args.place < length qs = c.requires in
    let x : t ≡ get_or qs c.args.place t = search rules in
    let y : t ≡ get_or qs c.args.place d = x ∙ get_or_default qs c.args.place t d h in
    let s : is_some t.bytes ≡ false = search rules in
    let l = ap length e ∙ same_length ts c.args.place in
    let r = back_one ts qs c.args.place p c.in-Some.bytes ps c.args.pieces.now.items c.pop.new.self.items d (omega arith) e f g (ap (λ u. is_some u.bytes) (sym y) ∙ s) c.in-Some.ensures.items in
    (c.put_bytes.ensures.items ∙ r.0, r.1)

pub returns-in_default-clause-back : goal.returns-in_default-clause-back
returns-in_default-clause-back c ts ps p d e f g =
    let qs = c.args.queue.now.items in
    let t = c.index.result.now in
    let h : c.args.place < length qs = c.requires in
    let x : t ≡ get_or qs c.args.place t = search rules in
    let y : t ≡ get_or qs c.args.place d = x ∙ get_or_default qs c.args.place t d h in
    let s : is_some t.bytes ≡ false = search rules in
    let l = ap length e ∙ same_length ts c.args.place in
    let z = some_piece ts qs c.args.place p ps c.args.pieces.now.items d (omega arith) e f g (ap (λ u. is_some u.bytes) (sym y) ∙ s) in
    let n : c.pop.new.self.items ≡ [] = rw c.in_default.ensures.cases.0 at c.in_default.ensures.rest in
    let a = ap length (c.in_default.ensures.items ∙ ap (λ m. m ++ []) n) in
    absurd (omega arith)
