use Rattle.std.proofs.Common.{◌≡◌, ◌∷◌, ◌∙◌, List, [], ap, subst, rules, ℕ}
use Rattle.std.specs.BTreeMap.Range.{IsRangeOf}
use Rattle.std.specs.declared.ops.Bound.TheVariants.{Included, Unbounded}
use Rattle.xet_queue.specs.steps.Indexed.{pair_cmp}
use Rattle.xet_queue.proofs.FirstNumbers.{first_none, first_other, first_some}
use Rattle.xet_queue.proofs.waiting.first_number.Goals as goal

pub returns-in-Some : goal.returns-in-Some
returns-in-Some c =
    let shown = λ (r : List ((ℕ × ℕ) × Unit {0})). IsRangeOf pair_cmp (Included (c.args.key, 0)) Unbounded c.args.index.now r in
    let found = c.in-Some.field-0-0.now in
    let s = subst shown (c.in-Some.ensures.steps ∙ ap (λ k. ((k, found.1), tt) ∷ c.next.new.self) c.if-found-key.true) (c.range.ensures.in_range tt) in
    first_some c.args.index.now c.args.key found.1 tt c.next.new.self s

pub returns-in_default : goal.returns-in_default
returns-in_default c =
    let shown = λ (r : List ((ℕ × ℕ) × Unit {0})). IsRangeOf pair_cmp (Included (c.args.key, 0)) Unbounded c.args.index.now r in
    let s = subst shown c.in-Some.ensures.steps (c.range.ensures.in_range tt) in
    first_other c.args.index.now c.args.key c.in-Some.field-0-0.now c.in-Some.field-0-1.now c.next.new.self s c.if-found-key.false

pub returns-in_default-2 : goal.returns-in_default-2
returns-in_default-2 c =
    let shown = λ (r : List ((ℕ × ℕ) × Unit {0})). IsRangeOf pair_cmp (Included (c.args.key, 0)) Unbounded c.args.index.now r in
    let e : c.range.result ≡ [] = search rules in
    first_none c.args.index.now c.args.key (subst shown e (c.range.ensures.in_range tt))
