use Rattle.std.proofs.Common.{rules, ◌≡◌, sym, ap, [], map, Some, None}
use Rattle.std.specs.List.{enumerate_from}
use Rattle.xet_base.specs.Lists.{first_some}
use Rattle.xet_progress_state.specs.steps.Open.{open_in}
use Rattle.xet_progress_state.specs.Replies.{complete_or}
use Rattle.xet_progress_state.proofs.Marking.{completed_within}
use Rattle.xet_progress_state.proofs.Unfinished.{open_file_is, open_xorb_is, all_done}
use Rattle.xet_progress_state.proofs.state.TrackerState.assert_complete.Goals as goal

pub first_open-requires-clause-within : goal.first_open-requires-clause-within
first_open-requires-clause-within c =
    let s = c.self.inside in
    rw c.as_slice.ensures.value (completed_within s.calls.items s.files.items s.xorbs s.total s.completed s.sizes c.self.invariant.kept)

pub returns-in-Some-clause-answer : goal.returns-in-Some-clause-answer
returns-in-Some-clause-answer c =
    let s = c.self.inside in
    let e : first_some (map open_in (enumerate_from 0 s.files.items)) ≡ Some c.in-Some.open = search rules in
    rw (← c.self.view_is) (sym (ap complete_or (open_file_is s.calls.items s.files.items c.in-Some.open c.self.invariant.kept.files_are e)))

pub returns-in-Some-least_open-clause-answer : goal.returns-in-Some-least_open-clause-answer
returns-in-Some-least_open-clause-answer c =
    let s = c.self.inside in
    let e : first_some (map open_in (enumerate_from 0 s.files.items)) ≡ None = search rules in
    let some = c.in-Some-least_open.ensures.some in
    rw (← c.self.view_is) (sym (ap complete_or (open_xorb_is s.calls.items s.files.items s.xorbs s.names c.least_open.new.self s.marks s.total s.completed s.sizes c.self.invariant c.least_open.ensures.kept c.in-Some-least_open.hash e some.0 some.1 some.2)))

pub returns-clause-answer : goal.returns-clause-answer
returns-clause-answer c =
    let s = c.self.inside in
    let e : first_some (map open_in (enumerate_from 0 s.files.items)) ≡ None = search rules in
    let f : c.least_open.new.self ≡ [] = search rules in
    rw (← c.self.view_is) (sym (ap complete_or (all_done s.calls.items s.files.items s.xorbs s.names c.least_open.new.self s.marks s.total s.completed s.sizes c.self.invariant c.least_open.ensures.kept e f)))
