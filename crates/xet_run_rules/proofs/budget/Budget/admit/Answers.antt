use Rattle.std.proofs.Common.{◌≡◌, ◌+◌, ◌≤◌, ◌^◌, ℕ, ap, arith, refl, rules}
use Rattle.xet_run_rules.specs.declared.budget.Budget.{Budget}
use Rattle.xet_run_rules.proofs.budget.Budget.admit.Goals as goal

-- a budget of which so many bytes are used
abbrev of_bytes : ℕ → Budget
of_bytes n = record { unwritten = n }

pub returns-then-self-eq0 : goal.returns-then-self-eq0
returns-then-self-eq0 c =
    let used : c.args.length ≡ c.args.self.now.unwritten + c.args.length = omega (arith, c.if-self-eq0.true) in
    record { refused = tt; kept = tt; fits = λ p. p.0 c.if-self-eq0.true; given = refl; counted = ap of_bytes used }

pub returns-in-Some : goal.returns-in-Some
returns-in-Some c =
    let total : c.in-Some.total ≡ c.args.self.now.unwritten + c.args.length = search rules in
    record { refused = tt; kept = tt; fits = λ p. let past = p.1 in omega (arith, total); given = refl; counted = ap of_bytes total }

pub returns-in_default : goal.returns-in_default
returns-in_default c =
    let total : c.in-Some.total ≡ c.args.self.now.unwritten + c.args.length = search rules in
    record { refused = (c.if-self-eq0.false, omega (arith, total)); kept = refl; fits = tt; given = tt; counted = tt }

pub returns-in_default-2 : goal.returns-in_default-2
returns-in_default-2 c =
    let over : 2 ^ 64 ≤ c.args.self.now.unwritten + c.args.length = search rules in
    record { refused = (c.if-self-eq0.false, omega (arith, over)); kept = refl; fits = tt; given = tt; counted = tt }
