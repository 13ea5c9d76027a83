use Rattle.std.proofs.Common.{rules, ◌≡◌, ◌<◌, Some, sym, ◌∙◌, length, arith}
use Rattle.xet_progress_state.specs.declared.file.TrackedFile.{TrackedFile}
use Rattle.xet_progress_state.proofs.Marking.{first_open_at, none_open, none_reopened}
use Rattle.xet_progress_state.proofs.marks.Marks.walk.Goals as goal

pub returns-in-Some-clause-first : goal.returns-in-Some-clause-first
returns-in-Some-clause-first c =
    let l = c.loop-self in
    let some : c.open_at.result ≡ Some c.in-Some.open = search rules in
    let inside : l.self.mark < length c.args.files.now = search rules in
    sym (first_open_at c.args.files.now l.self.mark c.in-Some.open c.requires.within inside
    (λ f d m. l.invariant.marked.complete f d m (none_reopened l.self l.invariant.none f))
    (λ (d : TrackedFile). sym (c.open_at.ensures d) ∙ some))

pub returns-clause-first : goal.returns-clause-first
returns-clause-first c =
    let l = c.loop-self in
    sym (none_open c.args.files.now c.requires.within (λ f d m. l.invariant.marked.complete f d (omega arith) (none_reopened l.self l.invariant.none f)))
