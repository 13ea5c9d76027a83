use Rattle.std.proofs.Common.{rules, ◌≡◌, ◌+◌, ◌∷◌, ◌++◌, ◌∙◌, [], ap, sym}
use Rattle.xet_queue.specs.Unordered.{total_length}
use Rattle.xet_queue.specs.declared.completed_term.WantedTerm.{WantedTerm}
use Rattle.xet_queue.proofs.Completing.{length_of, total_more}
use Rattle.xet_queue.proofs.data_writer.unordered_writer.UnorderedWriter.wait.Goals as goal

pub invariant_of-self-2 : goal.invariant_of-self-2
invariant_of-self-2 c =
    let i = c.self.inside in
    let t : WantedTerm = record { byte_range = c.args.byte_range; admission = c.args.admission } in
    let e : c.add.new.self ≡ i.wanted ++ t ∷ [] = search rules in
    let n : c.in-Some.wanted_bytes ≡ i.wanted_bytes + length_of t = search rules in
    n ∙ ap (λ k. k + length_of t) c.self.invariant ∙ sym (total_more i.wanted t) ∙ ap total_length (sym e)
