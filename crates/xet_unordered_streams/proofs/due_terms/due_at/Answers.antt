use Rattle.std.proofs.Common.{◌≡◌, ◌+◌, ◌∙◌, ℕ, ap, refl, sym}
use Rattle.xet_leader.specs.Led.{Led}
use Rattle.xet_unordered_streams.specs.Placing.{is_early}
use Rattle.xet_unordered_streams.proofs.Looking.{due_there, early_there, empty_there, none_there, refused_there, unkept_now}
use Rattle.xet_unordered_streams.proofs.due_terms.due_at.Goals as goal

pub returns-in_default : goal.returns-in_default
returns-in_default g c =
    none_there c.args.leader.now (is_early c.args.early.now) c.args.from c.args.skip c.in_default.ensures

pub returns-then-range : goal.returns-then-range
returns-then-range g c =
    empty_there c.args.leader.now (is_early c.args.early.now) c.args.from c.args.skip c.in-Some.found c.in-Some.ensures
    c.if-range.true

pub returns-then-has : goal.returns-then-has
returns-then-has g c =
    let is : c.leader.inside.finished + c.args.skip ≡ c.args.leader.now.finished + c.args.skip =
    ap (λ (l : Led). l.finished + c.args.skip) c.leader.view_is in
    early_there c.args.leader.now (is_early c.args.early.now) c.args.from c.args.skip c.in-Some.found c.in-Some.ensures
    (c.leader.inside.finished + c.args.skip) is (sym c.has.ensures ∙ c.if-has.true)

pub piece_at-requires : goal.piece_at-requires
piece_at-requires g c = (c.args.skip, c.in-Some.ensures)

pub returns-in-Ok-Some : goal.returns-in-Ok-Some
returns-in-Ok-Some g c =
    let is : c.leader.inside.finished + c.args.skip ≡ c.args.leader.now.finished + c.args.skip =
    ap (λ (l : Led). l.finished + c.args.skip) c.leader.view_is in
    let h = c.in-Ok-Some.ensures c.args.skip c.in-Some.ensures in
    due_there c.args.leader.now (is_early c.args.early.now) c.args.from c.args.skip c.in-Some.found c.in-Some.ensures
    (c.leader.inside.finished + c.args.skip) is c.if-range.false (sym c.has.ensures ∙ c.if-has.false)
    c.in-Ok-Some.bytes (rw c.in-Ok-Some.field-0-is at h) _ refl c.saturating_sub-place.ensures refl

pub returns-in-Ok-None : goal.returns-in-Ok-None
returns-in-Ok-None g c =
    let is : c.leader.inside.finished + c.args.skip ≡ c.args.leader.now.finished + c.args.skip =
    ap (λ (l : Led). l.finished + c.args.skip) c.leader.view_is in
    let h = c.in-Ok-None.ensures c.args.skip c.in-Some.ensures in
    unkept_now c.args.leader.now (is_early c.args.early.now) c.args.from c.args.skip c.in-Some.found c.in-Some.ensures
    (c.leader.inside.finished + c.args.skip) is c.if-range.false (sym c.has.ensures ∙ c.if-has.false)
    (rw c.in-Ok-None.field-0-is at h)

pub returns-in-Err : goal.returns-in-Err
returns-in-Err g c =
    let is : c.leader.inside.finished + c.args.skip ≡ c.args.leader.now.finished + c.args.skip =
    ap (λ (l : Led). l.finished + c.args.skip) c.leader.view_is in
    refused_there c.args.leader.now (is_early c.args.early.now) c.args.from c.args.skip c.in-Some.found c.in-Some.ensures
    (c.leader.inside.finished + c.args.skip) is c.if-range.false (sym c.has.ensures ∙ c.if-has.false)
    c.in-Err.error (c.in-Err.ensures c.args.skip c.in-Some.ensures)
