use Rattle.std.proofs.Common.{◌≡◌, ◌+◌, ◌-◌, ◌||◌, List, length, take, drop, subst, sym, ◌∙◌, ap}
use Rattle.std.specs.Prelude.{nat_lt}
use Rattle.std.specs.List.{prefix_len}
use Rattle.std.specs.List.Sorted.{IsNonDecreasingBy}
use Rattle.std.proofs.lemmas.List.{take_rest}
use Rattle.xet_base.specs.declared.cas_types.FileRange.{FileRange}
use Rattle.xet_terms.specs.Managers.{Manager, without_past}
use Rattle.xet_terms.proofs.Managing.{accept_keeps, below_is, rest_goes, without_is}
use Rattle.xet_terms.proofs.manager.ReconstructionTermManager.settle.Goals as goal

pub invariant_of-self : goal.invariant_of-self
invariant_of-self g c =
    let i = c.self.inside in
    let m : Manager = record {
      file = i.file_hash;
      range = i.range;
      least = i.least;
      greatest = i.greatest;
      buffer = i.buffer;
      multirange = i.multirange;
      queries = i.queries.items;
      asked = i.asked;
      answered = i.answered;
      known_end = i.known_end;
      ended = i.ended;
      waiting = i.waiting.items;
      handed_end = i.handed_end;
      failed = i.failed;
      planned = i.planned;
      progress = i.progress;
    } in
    rw (c.truncate.ensures.items, c.either-self-inside.ensures) (accept_keeps m c.count_below-kept.result c.args.known c.args.early i.waiting.items c.self.invariant (rw (← c.self.view_is) at c.requires.asked) (rw (← c.self.view_is) at c.requires.open))

pub count_below-kept-requires : goal.count_below-kept-requires
count_below-kept-requires g c =
    let i = c.self.inside in
    subst (λ (l : List FileRange). IsNonDecreasingBy (λ q. q.start) l) (sym (take_rest c.as_slice.result.now i.asked ∙ ap (λ (l : List FileRange). drop i.asked l) c.as_slice.ensures.value))
    (rest_goes i.range.start i.range.end (i.greatest + i.least) i.queries.items i.asked c.self.invariant.cuts)

pub returns : goal.returns
returns g c =
    let i = c.self.inside in
    let kept : c.count_below-kept.result ≡ prefix_len (λ q. nat_lt q.start c.args.known) (drop i.asked i.queries.items) =
    below_is (take (length c.as_slice.result.now - i.asked) (drop i.asked c.as_slice.result.now)) c.args.known c.count_below-kept.result c.count_below-kept.ensures.within c.count_below-kept.ensures.below ∙ ap (λ (l : List FileRange). prefix_len (λ q. nat_lt q.start c.args.known) l) (take_rest c.as_slice.result.now i.asked ∙ ap (λ (l : List FileRange). drop i.asked l) c.as_slice.ensures.value) in
    let stay : c.truncate.new.self.items ≡ without_past i.asked c.args.known i.queries.items =
    c.truncate.ensures.items ∙ ap (λ k. take (i.asked + k) i.queries.items) kept ∙ sym (without_is i.range.start i.range.end (i.greatest + i.least) i.asked c.args.known i.queries.items c.self.invariant.cuts) in
    rw (← c.self.view_is, c.either-self-inside.ensures)
    (ap (λ (qs : List FileRange). let m : Manager = record {
      file = i.file_hash;
      range = i.range;
      least = i.least;
      greatest = i.greatest;
      buffer = i.buffer;
      multirange = i.multirange;
      queries = qs;
      asked = i.asked;
      answered = i.answered + 1;
      known_end = c.args.known;
      ended = i.ended || c.args.early;
      waiting = i.waiting.items;
      handed_end = i.handed_end;
      failed = i.failed;
      planned = i.planned;
      progress = i.progress;
    } in m) stay)
