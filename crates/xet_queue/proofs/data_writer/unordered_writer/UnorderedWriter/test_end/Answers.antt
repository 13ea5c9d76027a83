use Rattle.std.proofs.Common.{◌≡◌, ◌∙◌, ap, map}
use Rattle.std.specs.Option.{option_copied}
use Rattle.xet_queue.specs.Calls.{finish_fault}
use Rattle.xet_queue.specs.Unordered.{Unordered, range_of}
use Rattle.xet_queue.proofs.Completing.{end_fault, end_is}
use Rattle.xet_queue.proofs.data_writer.unordered_writer.UnorderedWriter.test_end.Goals as goal

pub returns-in-Some : goal.returns-in-Some
returns-in-Some c =
    let chain : end_fault (option_copied c.first.result) ≡ finish_fault (map range_of c.args.self.now.wanted) = ap end_fault c.first.ensures ∙ end_is c.self.inside.wanted ∙ ap (λ (w : Unordered). finish_fault (map range_of w.wanted)) c.self.view_is in
    rw c.in-Some.is at chain

pub returns-in-None : goal.returns-in-None
returns-in-None c =
    let chain : end_fault (option_copied c.first.result) ≡ finish_fault (map range_of c.args.self.now.wanted) = ap end_fault c.first.ensures ∙ end_is c.self.inside.wanted ∙ ap (λ (w : Unordered). finish_fault (map range_of w.wanted)) c.self.view_is in
    rw c.in-None.is at chain
