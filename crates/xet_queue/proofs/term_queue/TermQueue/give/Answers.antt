use Rattle.std.proofs.Common.{rules, ◌≡◌, ◌<◌, ◌∙◌, ap, sym, get_or, length, None, Some}
use Rattle.std.specs.List.{position_from}
use Rattle.xet_queue.specs.Calls.{length_fault}
use Rattle.xet_queue.specs.Queues.{chain_end, is_wanted_at}
use Rattle.xet_queue.specs.Sequential.{Sequential}
use Rattle.xet_queue.specs.Waits.{without_first}
use Rattle.xet_queue.specs.steps.QueueSteps.{with_bytes}
use Rattle.xet_queue.specs.steps.WantedPlaces.{places_of}
use Rattle.xet_queue.proofs.Places.{places_supplied, start_of}
use Rattle.xet_queue.proofs.Terms.{chain_filled, filled_is, found_within, give_done, give_none, give_refused}
use Rattle.xet_queue.proofs.term_queue.TermQueue.give.Goals as goal

pub returns-in_default : goal.returns-in_default
returns-in_default g c = give_none c.args.self.now c.args.start c.args.bytes (search rules)

pub index-requires : goal.index-requires
index-requires g c =
    let e : position_from (is_wanted_at c.args.start) 0 c.args.self.now.queue ≡ Some c.in-Some.place = search rules in
    let h : c.in-Some.place < length c.args.self.now.queue = found_within c.args.start c.in-Some.place c.args.self.now.queue e in
    search (rules, h)

pub put_bytes-requires : goal.put_bytes-requires
put_bytes-requires g c =
    let e : position_from (is_wanted_at c.args.start) 0 c.args.self.now.queue ≡ Some c.in-Some.place = search rules in
    let h : c.in-Some.place < length c.args.self.now.queue = found_within c.args.start c.in-Some.place c.args.self.now.queue e in
    search (rules, h)

pub returns-in-Some-test_length : goal.returns-in-Some-test_length
returns-in-Some-test_length g c =
    let d = c.index.result.now in
    let e : position_from (is_wanted_at c.args.start) 0 c.args.self.now.queue ≡ Some c.in-Some.place = search rules in
    let there : d ≡ get_or c.args.self.now.queue c.in-Some.place d = search rules in
    let l : length_fault (get_or c.args.self.now.queue c.in-Some.place d).byte_range c.args.bytes ≡ Some c.in-Some-test_length.fault = ap (λ t. length_fault t.byte_range c.args.bytes) (sym there) ∙ sym c.test_length.ensures ∙ c.in-Some-test_length.is in
    give_refused c.args.self.now c.args.start c.in-Some.place c.args.bytes d c.in-Some-test_length.fault e l

pub invariant_of-self : goal.invariant_of-self
invariant_of-self g c =
    let i = c.self.inside in
    let d = c.index.result.now in
    let e : position_from (is_wanted_at c.args.start) 0 i.queue.items ≡ Some c.in-Some.place = search rules in
    let there : d ≡ get_or i.queue.items c.in-Some.place d = search rules in
    let l : length_fault (get_or i.queue.items c.in-Some.place d).byte_range c.args.bytes ≡ None = ap (λ t. length_fault t.byte_range c.args.bytes) (sym there) ∙ sym c.test_length.ensures ∙ c.in_default-test_length.is in
    let f = chain_filled i.delivered i.queue.items c.in-Some.place c.args.bytes i.expected d (found_within c.args.start c.in-Some.place i.queue.items e) l c.self.invariant.0 in
    let q = c.put_bytes.ensures.items ∙ filled_is c.args.start c.in-Some.place c.args.bytes i.queue.items d e in
    let w : c.take.new.self ≡ places_of i.passed c.put_bytes.new.queue.items = c.take.ensures.rest ∙ ap (λ l. without_first start_of c.args.start l) c.self.invariant.2 ∙ sym (places_supplied c.args.start i.passed c.args.bytes i.queue.items) ∙ ap (λ l. places_of i.passed l) (sym q) in
    (ap (λ l. chain_end i.delivered l) c.put_bytes.ensures.items ∙ f, search rules, w, search rules)

pub returns : goal.returns
returns g c =
    let i = c.self.inside in
    let d = c.index.result.now in
    let e : position_from (is_wanted_at c.args.start) 0 c.args.self.now.queue ≡ Some c.in-Some.place = search rules in
    let there : d ≡ get_or c.args.self.now.queue c.in-Some.place d = search rules in
    let l : length_fault (get_or c.args.self.now.queue c.in-Some.place d).byte_range c.args.bytes ≡ None = ap (λ t. length_fault t.byte_range c.args.bytes) (sym there) ∙ sym c.test_length.ensures ∙ c.in_default-test_length.is in
    let after : Sequential g.row.S.Denot = record { sink = i.sink; vectored = i.use_vectorized; queue = c.put_bytes.new.queue.items; released = i.released.items; expected = i.expected; delivered = i.delivered; kept = i.kept; finished = i.finished } in
    let h : after ≡ record c.args.self.now { queue = with_bytes c.args.self.now.queue c.in-Some.place c.args.bytes } = search rules in
    give_done c.args.self.now after c.args.start c.in-Some.place c.args.bytes d e l h
