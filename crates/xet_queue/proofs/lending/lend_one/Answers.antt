use Rattle.std.proofs.Common.{rules, ◌≡◌, ◌==◌, [], None, Some, true, get_or, length, ap, sym, ◌∙◌}
use Rattle.xet_queue.proofs.Lent.{empty_lent, no_bytes, wanted_lent}
use Rattle.xet_queue.proofs.lending.lend_one.Goals as goal

pub returns-in-None-clause-queue : goal.returns-in-None-clause-queue
returns-in-None-clause-queue c =
    let t = c.index.result.now in
    let e : t ≡ get_or c.args.queue.now.items c.args.place t = search rules in
    let f : t.bytes ≡ None = search rules in
    sym (wanted_lent c.args.queue.now.items c.args.place t (ap (λ u. u.bytes) (sym e) ∙ f))

pub returns-then-is_empty-clause-queue : goal.returns-then-is_empty-clause-queue
returns-then-is_empty-clause-queue c =
    let t = c.index.result.now in
    let e : t ≡ get_or c.args.queue.now.items c.args.place t = search rules in
    let z : (length c.in-Some.bytes == 0) ≡ true = search rules in
    let f : t.bytes ≡ Some [] = c.in-Some.is ∙ ap Some (no_bytes c.in-Some.bytes z) in
    sym (empty_lent c.args.queue.now.items c.args.place t (ap (λ u. u.bytes) (sym e) ∙ f))
