use Rattle.std.proofs.Common.{rules, ◌≡◌, ℕ, true, false, Some, sym, ◌∙◌, arith}
use Rattle.std.specs.Ordering.{nat_cmp, is_gt}
use Rattle.std.specs.BTreeSet.{contains}
use Rattle.xet_progress_state.specs.declared.file.TrackedFile.{TrackedFile}
use Rattle.xet_progress_state.proofs.Marking.{before_least, first_open_at}
use Rattle.xet_progress_state.proofs.marks.Marks.first_reopened.Goals as goal

pub returns-in-Some-open_at-clause-some : goal.returns-in-Some-open_at-clause-some
returns-in-Some-open_at-clause-some c =
    let l = c.loop-id in
    let id = c.in-Some.id.now in
    let has : contains nat_cmp l.self.reopened c.in-Some.id.now ≡ true = search rules in
    let least : (q : ℕ) → contains nat_cmp l.self.reopened q ≡ true → is_gt (nat_cmp c.in-Some.id.now q) ≡ false = search rules in
    let below = l.invariant.below c.in-Some.id.now has in
    let within = l.invariant.within in
    let some : c.open_at.result ≡ Some c.in-Some-open_at.open = search rules in
    first_open_at c.args.files.now c.in-Some.id.now c.in-Some-open_at.open c.requires.within (omega (arith, below, within)) (before_least c.args.files.now l.self c.in-Some.id.now l.invariant has least)
    (λ (d : TrackedFile). sym (c.open_at.ensures d) ∙ some)
