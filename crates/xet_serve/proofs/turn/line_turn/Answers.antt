use Rattle.std.proofs.Common.{◌≡◌, false, true, rules}
use Rattle.std.specs.Prelude.{Err}
use Rattle.std.proofs.lemmas.Result.{err_from_is_err_and}
use Rattle.xet_base.proofs.CallerLemmas.{err-of}
use Rattle.xet_serve_lines.specs.Lines.{is_quit}
use Rattle.xet_serve.proofs.Turns.{turn_answered, turn_cut, turn_quit, turn_unflushed}
use Rattle.xet_serve.proofs.turn.line_turn.Goals as goal

pub returns-in_err-serve_line : goal.returns-in_err-serve_line
returns-in_err-serve_line g c =
    let e : c.from_residual.result ≡ Err c.in_err-serve_line.field-0.0 = err-of _ _ c.from_residual.ensures in
    rw e (turn_cut c.args.config.now.tries c.args.line.now _ _ _ _ _
    (rw c.in_err-serve_line.was at c.serve_line.ensures))

pub returns-then-not-is_quit : goal.returns-then-not-is_quit
returns-then-not-is_quit g c =
    let other : is_quit c.args.line.now ≡ false = search rules in
    turn_answered c.args.config.now.tries c.args.line.now _ _ _ _ (rw c.in_ok-serve_line.was at c.serve_line.ensures) other

pub returns-in_err-flush : goal.returns-in_err-flush
returns-in_err-flush g c =
    let p = err_from_is_err_and c.from_residual-in_err-flush.result c.from_residual-in_err-flush.ensures.1 in
    rw (p.1, p.2) (turn_unflushed c.args.config.now.tries c.args.line.now _ _ _ _ _
    (rw c.in_ok-serve_line.was at c.serve_line.ensures) _ (rw c.in_err-flush.was at c.flush.ensures))

pub returns : goal.returns
returns g c =
    let quit : is_quit c.args.line.now ≡ true = search rules in
    turn_quit c.args.config.now.tries c.args.line.now _ _ _ _ _ (rw c.in_ok-serve_line.was at c.serve_line.ensures)
    (rw c.in_ok-flush.was at c.flush.ensures) quit
