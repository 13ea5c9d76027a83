use Rattle.std.proofs.Common.{rules, ◌≡◌, ◌∙◌, ap, sym, subst, refl, arith, None, Some, Ok}
use Rattle.xet_queue.specs.Unordered.{Unordered, complete, start_of, total_length}
use Rattle.xet_queue.specs.Waits.{first_with, without_first}
use Rattle.xet_queue.specs.steps.UnorderedSteps.{CompletedFirst}
use Rattle.xet_queue.proofs.Completing.{first_completed, length_of, none_completed, none_taken, total_less}
use Rattle.xet_queue.proofs.data_writer.unordered_writer.UnorderedWriter.complete_first.Goals as goal

pub invariant_of-self-in_default : goal.invariant_of-self-in_default
invariant_of-self-in_default c =
    let i = c.self.inside in
    let e : first_with start_of c.args.start i.wanted ≡ None = sym c.take.ensures.value ∙ c.in_default.is in
    c.self.invariant ∙ ap total_length (sym (c.take.ensures.rest ∙ none_taken c.args.start i.wanted e))

pub returns-in_default : goal.returns-in_default
returns-in_default c =
    let i = c.self.inside in
    let e : first_with start_of c.args.start i.wanted ≡ None = sym c.take.ensures.value ∙ c.in_default.is in
    let w : c.take.new.self ≡ i.wanted = c.take.ensures.rest ∙ none_taken c.args.start i.wanted e in
    let b : Unordered = record { wanted = i.wanted; completed = i.completed.items; total = i.total; kept = i.kept; finished = i.finished } in
    let n : Unordered = record { wanted = c.take.new.self; completed = c.reserve.new.self.items; total = i.total; kept = i.kept; finished = i.finished } in
    let same : b ≡ n = rw (w, c.reserve.ensures.items) refl in
    let done = subst (λ m. CompletedFirst b m c.args.start c.args.bytes (Ok tt)) same (none_completed b c.args.start c.args.bytes e) in
    subst (λ a. CompletedFirst a n c.args.start c.args.bytes (Ok tt)) c.self.view_is done

pub overflow_sub-self : goal.overflow_sub-self
overflow_sub-self c =
    let i = c.self.inside in
    let e : first_with start_of c.args.start i.wanted ≡ Some c.in-Some.field-0 = sym c.take.ensures.value ∙ c.in-Some.is in
    let t = total_less c.args.start i.wanted c.in-Some.field-0 e in
    let v = c.self.invariant in
    let s : c.saturating_sub.result ≡ length_of c.in-Some.field-0 = search rules in
    omega arith

pub invariant_of-self-2 : goal.invariant_of-self-2
invariant_of-self-2 c =
    let i = c.self.inside in
    let e : first_with start_of c.args.start i.wanted ≡ Some c.in-Some.field-0 = sym c.take.ensures.value ∙ c.in-Some.is in
    let t = total_less c.args.start i.wanted c.in-Some.field-0 e in
    let v = c.self.invariant in
    let s : c.saturating_sub.result ≡ length_of c.in-Some.field-0 = search rules in
    let r : total_length c.take.new.self ≡ total_length (without_first start_of c.args.start i.wanted) = ap total_length c.take.ensures.rest in
    omega arith

pub returns : goal.returns
returns c =
    let i = c.self.inside in
    let e : first_with start_of c.args.start i.wanted ≡ Some c.in-Some.field-0 = sym c.take.ensures.value ∙ c.in-Some.is in
    let b : Unordered = record { wanted = i.wanted; completed = i.completed.items; total = i.total; kept = i.kept; finished = i.finished } in
    let n : Unordered = record { wanted = c.take.new.self; completed = c.push_back_reserved.new.self.items; total = c.saturating_add-self-inside.result; kept = i.kept; finished = i.finished } in
    let h : n ≡ complete b c.args.start c.args.bytes (Some c.in-Some.field-0) = search rules in
    subst (λ a. CompletedFirst a n c.args.start c.args.bytes (Ok tt)) c.self.view_is (first_completed b n c.args.start c.args.bytes c.in-Some.field-0 e h)
