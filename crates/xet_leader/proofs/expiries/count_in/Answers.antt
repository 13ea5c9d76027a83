use Rattle.std.proofs.Common.{◌≡◌, ◌∙◌, ◌+◌, ◌<◌, ℕ, length, arith, refl, subst}
use Rattle.std.specs.Prelude.{slice_index}
use Rattle.std.proofs.lemmas.List.{get_or_default}
use Rattle.xet_leader.proofs.Counting.{counted_in}
use Rattle.xet_leader.proofs.expiries.count_in.Goals as goal

pub returns-clause-counted : goal.returns-clause-counted
returns-clause-counted c =
    let tries = c.args.plan.now.tries in
    let within : c.args.block < length tries.items =
    subst (λ (n : ℕ). c.args.block < n) tries.ok.0 (c.in-Some.ensures.variant.0 refl) in
    let was : c.in-Some.count.now ≡ slice_index tries.items c.args.block =
    c.in-Some.ensures.value ∙ get_or_default tries.items c.args.block c.in-Some.count.now 0 within in
    let more = c.saturating_add-more.ensures in
    let few = c.if-tries-more.false in
    let fits = c.ranges.tries in
    let is : c.saturating_add-more.result ≡ slice_index c.args.plan.now.tries.items c.args.block + 1 =
    omega (arith, was, more, few) in
    counted_in c.args.plan.now c.args.block c.saturating_add-more.result within is
