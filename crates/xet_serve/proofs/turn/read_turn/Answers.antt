use Rattle.std.proofs.Common.{◌≡◌, arith, refl}
use Rattle.std.proofs.lemmas.Result.{err_from_is_err_and}
use Rattle.xet_serve.proofs.Turns.{last_turned, read_failed, read_more, read_unflushed}
use Rattle.xet_serve.proofs.turn.read_turn.Goals as goal

pub returns-in_err-flush : goal.returns-in_err-flush
returns-in_err-flush g c =
    let p = err_from_is_err_and c.from_residual.result c.from_residual.ensures.1 in
    rw (p.1, p.2) (read_unflushed c.args.config.now.tries _ _ _ _ c.requires.within _ (rw c.in_err-flush.was at c.flush.ensures)
    refl refl refl)

pub returns-in_err-fill : goal.returns-in_err-fill
returns-in_err-fill g c =
    let p = err_from_is_err_and c.from_residual-in_err-fill.result c.from_residual-in_err-fill.ensures.1 in
    rw (p.1, p.2) (read_failed c.args.config.now.tries _ _ _ _ c.requires.within _ (rw c.in_ok-flush.was at c.flush.ensures)
    (rw c.in_err-fill.was at c.fill.ensures) refl refl)

pub returns-then-branch-gt0 : goal.returns-then-branch-gt0
returns-then-branch-gt0 g c =
    read_more c.args.config.now.tries _ _ _ _ c.requires.within _ c.if-branch-gt0.true (rw c.in_ok-flush.was at c.flush.ensures)
    (rw c.in_ok-fill.was at c.fill.ensures) refl refl

pub last_turn-requires-clause-flushed : goal.last_turn-requires-clause-flushed
last_turn-requires-clause-flushed g c κs within = (rw c.in_ok-flush.was at c.flush.ensures).flushed

pub returns : goal.returns
returns g c =
    let few = c.if-branch-gt0.false in
    let none : c.in_ok-fill.field-0 ≡ 0 = omega (arith, few) in
    last_turned c.args.config.now.tries _ _ _ _ _ _ _ c.requires.within c.requires.waiting
    (rw c.in_ok-flush.was at c.flush.ensures) (rw c.in_ok-fill.was at c.fill.ensures) none c.take_rest.ensures _
    (rw c.line.ensures at c.last_turn.ensures)
