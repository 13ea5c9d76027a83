use Rattle.std.proofs.Common.{◌≡◌, ◌<◌, [], length, rules}
use Rattle.std.specs.Prelude.{Err}
use Rattle.std.proofs.lemmas.List.{nil_from_length}
use Rattle.std.proofs.lemmas.Result.{err_from_is_err_and}
use Rattle.xet_base.proofs.CallerLemmas.{err-of}
use Rattle.xet_serve.proofs.Turns.{last_cut, last_none, last_one, last_unflushed}
use Rattle.xet_serve.proofs.turn.last_turn.Goals as goal

pub returns-then-is_empty : goal.returns-then-is_empty
returns-then-is_empty g c =
    let size : length c.args.line.now ≡ 0 = search rules in
    let none : c.args.line.now ≡ [] = nil_from_length c.args.line.now size in
    last_none c.args.config.now.tries c.args.line.now _ _ none c.requires.flushed

pub returns-in_err-serve_line : goal.returns-in_err-serve_line
returns-in_err-serve_line g c =
    let some : 0 < length c.args.line.now = search rules in
    let e : c.from_residual.result ≡ Err c.in_err-serve_line.field-0.0 = err-of _ _ c.from_residual.ensures in
    rw e (last_cut c.args.config.now.tries c.args.line.now _ _ _ _ _
    (rw c.in_err-serve_line.was at c.serve_line.ensures) some)

pub returns-in_err-flush : goal.returns-in_err-flush
returns-in_err-flush g c =
    let some : 0 < length c.args.line.now = search rules in
    let p = err_from_is_err_and c.from_residual-in_err-flush.result c.from_residual-in_err-flush.ensures.1 in
    rw (p.1, p.2) (last_unflushed c.args.config.now.tries c.args.line.now _ _ _ _ _
    (rw c.in_ok-serve_line.was at c.serve_line.ensures) _ (rw c.in_err-flush.was at c.flush.ensures) some)

pub returns : goal.returns
returns g c =
    let some : 0 < length c.args.line.now = search rules in
    last_one c.args.config.now.tries c.args.line.now _ _ _ _ _ (rw c.in_ok-serve_line.was at c.serve_line.ensures)
    (rw c.in_ok-flush.was at c.flush.ensures) some
