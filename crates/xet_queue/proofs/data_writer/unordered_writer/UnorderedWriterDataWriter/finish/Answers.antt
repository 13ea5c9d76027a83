use Rattle.std.proofs.Common.{rules, ◌≡◌, ◌<◌, ◌^◌, None, Ok, map, sym, subst, true}
use Rattle.xet_queue.specs.Calls.{FinishCall, closed_by, finish_fault}
use Rattle.xet_queue.specs.Unordered.{Unordered, range_of, sums_of, told_of}
use Rattle.xet_queue.proofs.Completing.{finish_done}
use Rattle.xet_queue.proofs.data_writer.unordered_writer.UnorderedWriterDataWriter.finish.Goals as goal

pub returns-clause-told : goal.returns-clause-told
returns-clause-told c =
    let i = c.self.inside in
    let b : Unordered = record { wanted = i.wanted; completed = i.completed.items; total = i.total; kept = i.kept; finished = i.finished } in
    let n : Unordered = record { wanted = i.wanted; completed = i.completed.items; total = i.total; kept = i.kept; finished = true } in
    let o : closed_by (told_of c.args.self.now) ≡ None = search rules in
    let f : finish_fault (map range_of c.args.self.now.wanted) ≡ None = search rules in
    let x : closed_by (told_of b) ≡ None = subst (λ (w : Unordered). closed_by (told_of w) ≡ None) (sym c.self.view_is) o in
    let y : finish_fault (map range_of b.wanted) ≡ None = subst (λ (w : Unordered). finish_fault (map range_of w.wanted) ≡ None) (sym c.self.view_is) f in
    let h : i.total < 2 ^ 64 = search rules in
    subst (λ (w : Unordered). FinishCall (told_of w) (told_of n) (sums_of w) (sums_of n) (Ok i.total)) c.self.view_is (finish_done b x y h)
