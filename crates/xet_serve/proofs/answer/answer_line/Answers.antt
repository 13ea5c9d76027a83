use Rattle.std.proofs.Common.{◌≡◌, false, true, rules}
use Rattle.std.specs.Prelude.{Err}
use Rattle.xet_base.proofs.CallerLemmas.{err-of}
use Rattle.xet_serve_lines.specs.Lines.{is_quit}
use Rattle.xet_serve.proofs.Goings.{goes_same}
use Rattle.xet_serve.proofs.Requests.{line_by, line_short, quit_by}
use Rattle.xet_serve.proofs.answer.answer_line.Goals as goal

pub returns-then-is_quit : goal.returns-then-is_quit
returns-then-is_quit g c =
    let quit : is_quit c.args.line.now ≡ true = search rules in
    quit_by c.args.config.now.tries c.args.line.now _ _ _ quit (rw c.clear.ensures.items at c.add_line.ensures)

pub returns-in_err-request : goal.returns-in_err-request
returns-in_err-request g c =
    let e : c.from_residual.result ≡ Err c.in_err-request.field-0.0 = err-of _ _ c.from_residual.ensures in
    rw e (line_short _ _ _ _ _ _ (goes_same _))

pub returns : goal.returns
returns g c =
    let other : is_quit c.args.line.now ≡ false = search rules in
    line_by c.args.config.now.tries c.args.line.now _ _ _ _ other c.in_ok-request.ensures _ c.answer_request.ensures
