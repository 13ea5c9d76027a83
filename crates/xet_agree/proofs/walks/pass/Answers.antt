use Rattle.std.proofs.Common.{◌+◌, arith, refl}
use Rattle.xet_agree.proofs.Passing.{both_go, first_more, pass_term, second_more}
use Rattle.xet_agree.proofs.walks.pass.Goals as goal

pub returns-then-are_at_same-clause-same : goal.returns-then-are_at_same-clause-same
returns-then-are_at_same-clause-same c =
    pass_term c.args.s.now c.args.t.now c.args.a.now c.args.b.now c.args.at_a.now c.args.at_b.now c.if-are_at_same.ensures
    c.requires.xorbs c.requires.first c.requires.second

pub returns-then-are_at_same-clause-first_within : goal.returns-then-are_at_same-clause-first_within
returns-then-are_at_same-clause-first_within c =
    let more = first_more c.args.s.now c.args.t.now c.args.a.now c.args.b.now c.args.at_a.now c.args.at_b.now c.if-are_at_same.ensures in
    omega (arith, more)

pub returns-then-are_at_same-clause-second_within : goal.returns-then-are_at_same-clause-second_within
returns-then-are_at_same-clause-second_within c =
    let more = second_more c.args.s.now c.args.t.now c.args.a.now c.args.b.now c.args.at_a.now c.args.at_b.now c.if-are_at_same.ensures in
    omega (arith, more)

pub returns-then-are_at_same-clause-goes : goal.returns-then-are_at_same-clause-goes
returns-then-are_at_same-clause-goes c some equal =
    let s = c.args.s.now in
    let t = c.args.t.now in
    let a = c.args.a.now in
    let b = c.args.b.now in
    let x = c.args.at_a.now in
    let y = c.args.at_b.now in
    let at = c.if-are_at_same.ensures in
    both_go s t a b x y (record x { begun = x.begun + 1 }) (record y { begun = y.begun + 1 }) (first_more s t a b x y at)
    (second_more s t a b x y at) refl refl (pass_term s t a b x y at c.requires.xorbs c.requires.first c.requires.second)
