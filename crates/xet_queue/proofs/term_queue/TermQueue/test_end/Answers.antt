use Rattle.std.proofs.Common.{◌≡◌, ◌∙◌, ap}
use Rattle.std.specs.Prelude.{slice_get}
use Rattle.std.specs.Option.{option_copied}
use Rattle.xet_queue.specs.Calls.{finish_fault}
use Rattle.xet_queue.specs.Queues.{wanted}
use Rattle.xet_queue.specs.Sequential.{Sequential}
use Rattle.xet_queue.proofs.Places.{end_fault, places_end}
use Rattle.xet_queue.proofs.term_queue.TermQueue.test_end.Goals as goal

pub returns-in-Some : goal.returns-in-Some
returns-in-Some g c =
    let i = c.self.inside in
    let chain : end_fault (option_copied c.first.result) ≡ finish_fault (wanted c.args.self.now.queue) = ap end_fault (c.first.ensures ∙ ap (λ l. slice_get l 0) c.self.invariant.2) ∙ places_end i.passed i.queue.items ∙ ap (λ (w : Sequential g.row.S.Denot). finish_fault (wanted w.queue)) c.self.view_is in
    rw c.in-Some.is at chain

pub returns-in-None : goal.returns-in-None
returns-in-None g c =
    let i = c.self.inside in
    let chain : end_fault (option_copied c.first.result) ≡ finish_fault (wanted c.args.self.now.queue) = ap end_fault (c.first.ensures ∙ ap (λ l. slice_get l 0) c.self.invariant.2) ∙ places_end i.passed i.queue.items ∙ ap (λ (w : Sequential g.row.S.Denot). finish_fault (wanted w.queue)) c.self.view_is in
    rw c.in-None.is at chain
