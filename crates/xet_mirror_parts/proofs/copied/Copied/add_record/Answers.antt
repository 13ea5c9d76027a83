use Rattle.std.proofs.Common.{◌≡◌, sym, ◌∙◌, ap, [], ◌∷◌, ◌++◌}
use Rattle.std.specs.Prelude.{Some, None}
use Rattle.xet_mirror_parts.proofs.Finds.{none-is, some-is}
use Rattle.xet_mirror_parts.proofs.Gathers.{gathered-absent, gathered-again, gathered-found}
use Rattle.xet_mirror_parts.proofs.copied.Copied.add_record.Goals as goal

pub returns-then-is_some : goal.returns-then-is_some
returns-then-is_some c = λ hs k.
    let there = some-is c.in_ok-number_or_add.field-0 (sym c.is_some.ensures ∙ c.if-is_some.true) in
    let is : c.in_ok-number_or_add.field-0 ≡ Some there.0 = there.1 in
    gathered-again c.args.self.now.xorbs hs c.args.named.now c.number_or_add.new.self c.args.records.now c.args.xorb.now there.0 k
    (sym c.in_ok-number_or_add.ensures.number ∙ is) (rw is at c.in_ok-number_or_add.ensures.list)

pub returns-in_ok-push : goal.returns-in_ok-push
returns-in_ok-push c = λ hs k.
    let is : c.in_ok-number_or_add.field-0 ≡ None = none-is c.in_ok-number_or_add.field-0 (sym c.is_some.ensures ∙ c.if-is_some.false) in
    gathered-found c.args.self.now.xorbs hs c.args.named.now c.number_or_add.new.self c.args.records.now c.push.new.self c.args.xorb.now c.in-Some.looked.now k
    (sym c.in_ok-number_or_add.ensures.number ∙ is) (rw is at c.in_ok-number_or_add.ensures.list) (sym (rw c.in-Some.is at c.find.ensures))
    (c.in_ok-push.ensures.ok ∙ ap (λ i. c.args.records.now ++ i ∷ []) c.in_ok-copied.ensures)

pub returns-in_default : goal.returns-in_default
returns-in_default c = λ hs k.
    let is : c.in_ok-number_or_add.field-0 ≡ None = none-is c.in_ok-number_or_add.field-0 (sym c.is_some.ensures ∙ c.if-is_some.false) in
    gathered-absent c.args.self.now.xorbs hs c.args.named.now c.number_or_add.new.self c.args.records.now c.args.xorb.now k
    (sym c.in_ok-number_or_add.ensures.number ∙ is) (rw is at c.in_ok-number_or_add.ensures.list) (sym (rw c.in_default.is at c.find.ensures))
