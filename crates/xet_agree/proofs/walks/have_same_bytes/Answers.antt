use Rattle.std.proofs.lemmas.Bool.{false≢true}
use Rattle.xet_agree.specs.steps.Alike.{bytes_in}
use Rattle.xet_agree.specs.steps.Walks.{left_of}
use Rattle.xet_agree.proofs.Passing.{pass_left, pass_more}
use Rattle.xet_agree.proofs.walks.have_same_bytes.Goals as goal

pub returns-then-not-branch : goal.returns-then-not-branch
returns-then-not-branch c =
    let s = c.args.s.now in
    let t = c.args.t.now in
    let a = c.args.a.now in
    let b = c.args.b.now in
    let l = c.walks in
    let other = c.in_ok-pass.ensures.other in
    let differs = rw c.if-not-branch.true at other in (
      λ h. absurd (false≢true h),
      λ e. absurd (differs (pass_left (bytes_in s a) (left_of s a l.at_a) (bytes_in t b) (left_of t b l.at_b) l.invariant.same e)),
    )

pub walks-preserved : goal.walks-preserved
walks-preserved c =
    let s = c.args.s.now in
    let t = c.args.t.now in
    let a = c.args.a.now in
    let b = c.args.b.now in
    let l = c.walks in
    let n = c.pass.new in
    let same = c.in_ok-pass.ensures.same in
    record {
      same = pass_more (bytes_in s a) (left_of s a l.at_a) (left_of s a n.at_a) (bytes_in t b) (left_of t b l.at_b) (left_of t b n.at_b) l.invariant.same
          (rw c.if-not-branch.false at same);
      first_within = c.in_ok-pass.ensures.first_within;
      second_within = c.in_ok-pass.ensures.second_within;
    }
