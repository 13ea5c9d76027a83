use Rattle.std.proofs.Common.{◌≡◌, ◌+◌, ◌≤◌, ◌<◌, None, Some, true, false, sym, ◌∙◌, rules, arith}
use Rattle.std.specs.Prelude.{option_map, slice_get}
use Rattle.std.proofs.lemmas.Bool.{both_ways, leb-true, leb-false}
use Rattle.xet_events.specs.Events.{unfinished, written}
use Rattle.xet_events.specs.BlockTables.{kept_in}
use Rattle.xet_events.specs.Indexes.{unfinished_of}
use Rattle.xet_run_rules.proofs.Fronts.{unfinished_front, may_write_is, may_write_back}
use Rattle.xet_run_rules.proofs.next_write.may_write.Goals as goal

pub returns-then-not-is_kept-clause-no : goal.returns-then-not-is_kept-clause-no
returns-then-not-is_kept-clause-no c = λ es x _ r some m.
    let i = c.args.index.now in
    let front : slice_get i.unfinished.items 0 ≡ Some c.in-Some.oldest = search rules in
    let h : option_map unfinished_of (slice_get (unfinished es) 0) ≡ Some c.in-Some.oldest = sym (unfinished_front es i x) ∙ front in
    let absent : kept_in i.blocks c.in-Some.oldest.id.plan c.in-Some.oldest.id.block ≡ false = search rules in
    both_ways _ absent (may_write_back es i c.args.taken _ x h m).0

pub returns-clause-yes : goal.returns-clause-yes
returns-clause-yes c = λ es x e.
    let i = c.args.index.now in
    let none : i.first_error ≡ None = search rules in
    let front : slice_get i.unfinished.items 0 ≡ Some c.in-Some.oldest = search rules in
    let h : option_map unfinished_of (slice_get (unfinished es) 0) ≡ Some c.in-Some.oldest = sym (unfinished_front es i x) ∙ front in
    let present : kept_in i.blocks c.in-Some.oldest.id.plan c.in-Some.oldest.id.block ≡ true = search rules in
    let within = leb-true c.args.taken c.saturating_sub.result e in
    let s = c.saturating_sub.ensures in
    let w = x.written_is in
    let some : 1 ≤ c.args.taken = search rules in
    let fits : written es + c.args.taken ≤ c.in-Some.oldest.end = omega arith in
    (sym x.error_is ∙ none, some, may_write_is es i c.args.taken _ x h present fits)

pub returns-clause-no : goal.returns-clause-no
returns-clause-no c = λ es x e r some m.
    let i = c.args.index.now in
    let front : slice_get i.unfinished.items 0 ≡ Some c.in-Some.oldest = search rules in
    let h : option_map unfinished_of (slice_get (unfinished es) 0) ≡ Some c.in-Some.oldest = sym (unfinished_front es i x) ∙ front in
    let past = leb-false c.args.taken c.saturating_sub.result e in
    let s = c.saturating_sub.ensures in
    let w = x.written_is in
    let over : c.in-Some.oldest.end < written es + c.args.taken = omega arith in
    let k = (may_write_back es i c.args.taken _ x h m).1 in omega arith
