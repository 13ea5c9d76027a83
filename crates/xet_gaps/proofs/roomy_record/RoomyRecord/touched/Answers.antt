use Rattle.std.proofs.Common.{◌≡◌, ◌∙◌, ◌-◌, List, ap, drop, length, rules, subst, sym, take}
use Rattle.std.proofs.lemmas.List.{take_rest}
use Rattle.xet_base.specs.declared.cas_types.FileRange.{FileRange}
use Rattle.xet_gaps.specs.Gaps.{AreGaps, parts_of}
use Rattle.xet_gaps.proofs.Marked.{each_touches, gaps_slice, touched_parts}
use Rattle.xet_gaps.proofs.roomy_record.RoomyRecord.touched.Goals as goal

pub returns-clause-parts : goal.returns-clause-parts
returns-clause-parts c =
    let all = c.deref.result.now in
    let gs = take (length c.deref.result.now - c.self.inside.first) (drop c.self.inside.first c.deref.result.now) in
    let same : gs ≡ c.args.self.now.gaps = take_rest all c.self.inside.first ∙ search rules in
    touched_parts gs c.args.range c.find_touched-from.result.0 c.find_touched-from.result.1 c.find_touched-from.ensures
    ∙ ap (λ (l : List FileRange). parts_of l c.args.range) same

pub returns-clause-each : goal.returns-clause-each
returns-clause-each c =
    let all = c.deref.result.now in
    let gs = take (length c.deref.result.now - c.self.inside.first) (drop c.self.inside.first c.deref.result.now) in
    let same : drop c.self.inside.first c.self.inside.gaps.items ≡ drop c.self.inside.first c.deref.result.now = search rules in
    let are : AreGaps 0 c.self.inside.size gs =
    subst (AreGaps 0 c.self.inside.size) (same ∙ sym (take_rest all c.self.inside.first)) c.self.invariant.1 in
    each_touches gs c.args.range c.find_touched-from.result.0 c.find_touched-from.result.1 c.self.inside.size are
    c.find_touched-from.ensures

pub returns-clause-all : goal.returns-clause-all
returns-clause-all c = rw (← c.self.view_is) c.self.invariant.1

pub returns-clause-are : goal.returns-clause-are
returns-clause-are c =
    let all = c.deref.result.now in
    let gs = take (length c.deref.result.now - c.self.inside.first) (drop c.self.inside.first c.deref.result.now) in
    let same : drop c.self.inside.first c.self.inside.gaps.items ≡ drop c.self.inside.first c.deref.result.now = search rules in
    let are : AreGaps 0 c.self.inside.size gs =
    subst (AreGaps 0 c.self.inside.size) (same ∙ sym (take_rest all c.self.inside.first)) c.self.invariant.1 in
    rw (← c.self.view_is) (gaps_slice c.self.inside.size c.find_touched-from.result.0 c.find_touched-from.result.1 gs are)
