use Rattle.std.proofs.Common.{◌≡◌, ◌∙◌, ap, sym, Some}
use Rattle.std.specs.Option.{option_copied}
use Rattle.std.specs.List.{position_from}
use Rattle.xet_queue.specs.Queues.{is_wanted_at}
use Rattle.xet_queue.specs.Sequential.{Sequential}
use Rattle.xet_queue.specs.Waits.{first_with}
use Rattle.xet_queue.specs.steps.WantedPlaces.{places_of}
use Rattle.xet_queue.proofs.Places.{first_place, number_from, place_above, start_of}
use Rattle.xet_queue.proofs.term_queue.TermQueue.find_wanted.Goals as goal

pub overflow_sub-result : goal.overflow_sub-result
overflow_sub-result g c =
    let i = c.self.inside in
    let e : option_copied c.find.result ≡ first_with start_of c.args.start (places_of i.passed i.queue.items) = c.find.ensures ∙ ap (λ l. first_with start_of c.args.start l) c.self.invariant.2 in
    let f : Some c.in-Some.place.now ≡ first_with start_of c.args.start (places_of i.passed i.queue.items) = rw c.in-Some.is at e in
    place_above c.args.start i.passed i.queue.items c.in-Some.place.now (sym f)

pub returns-in-Some : goal.returns-in-Some
returns-in-Some g c =
    let i = c.self.inside in
    let chain : number_from i.passed (option_copied c.find.result) ≡ position_from (is_wanted_at c.args.start) 0 c.args.self.now.queue = ap (number_from i.passed) (c.find.ensures ∙ ap (λ l. first_with start_of c.args.start l) c.self.invariant.2) ∙ first_place c.args.start i.passed i.queue.items ∙ ap (λ (w : Sequential g.row.S.Denot). position_from (is_wanted_at c.args.start) 0 w.queue) c.self.view_is in
    rw c.in-Some.is at chain

pub returns-in-None : goal.returns-in-None
returns-in-None g c =
    let i = c.self.inside in
    let chain : number_from i.passed (option_copied c.find.result) ≡ position_from (is_wanted_at c.args.start) 0 c.args.self.now.queue = ap (number_from i.passed) (c.find.ensures ∙ ap (λ l. first_with start_of c.args.start l) c.self.invariant.2) ∙ first_place c.args.start i.passed i.queue.items ∙ ap (λ (w : Sequential g.row.S.Denot). position_from (is_wanted_at c.args.start) 0 w.queue) c.self.view_is in
    rw c.in-None.is at chain
