use Rattle.std.proofs.Common.{rules, ◌≡◌, ◌++◌, ◌+◌, ◌∷◌, [], ap, sym, ◌∙◌, length}
use Rattle.xet_queue.specs.Queues.{chain_end}
use Rattle.xet_queue.specs.steps.WantedPlaces.{places_of}
use Rattle.xet_queue.proofs.Places.{places_more}
use Rattle.xet_queue.proofs.Terms.{chain_more}
use Rattle.xet_queue.proofs.term_queue.TermQueue.queue_term.Goals as goal

pub invariant_of-self-2 : goal.invariant_of-self-2
invariant_of-self-2 g c =
    let w = c.self.inside in
    let e : c.push_back_reserved.new.self.items ≡ w.queue.items ++ c.args.term ∷ [] = search rules in
    let s : c.args.term.byte_range.start ≡ w.expected = search rules in
    let p = ap (λ l. chain_end w.delivered l) e ∙ chain_more w.delivered w.queue.items c.args.term w.expected c.self.invariant.0 s c.requires.fits in
    let n : c.note_wanted.new.waiting ≡ w.waiting ++ places_of (w.passed + length w.queue.items) (c.args.term ∷ []) = search rules in
    let q = n ∙ ap (λ l. l ++ places_of (w.passed + length w.queue.items) (c.args.term ∷ [])) c.self.invariant.2 ∙ sym (places_more w.passed w.queue.items c.args.term) ∙ ap (λ l. places_of w.passed l) (sym e) in
    (p, search rules, q, search rules)
