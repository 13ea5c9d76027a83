use Rattle.std.proofs.Common.{◌≡◌, refl}
use Rattle.std.proofs.lemmas.Result.{err_from_is_err_and}
use Rattle.xet_serve.proofs.Turns.{line_done, line_failed, line_memory}
use Rattle.xet_serve.proofs.turn.serve_line.Goals as goal

pub returns-in_err-answer_line : goal.returns-in_err-answer_line
returns-in_err-answer_line g c =
    let p = err_from_is_err_and c.from_residual.result c.from_residual.ensures.1 in
    let out = g.O.Sink.told c.args.out.now in
    rw (p.1, p.2) (line_memory c.args.config.now.tries c.args.line.now out out _ _ _ _ refl
    (rw c.in_err-answer_line.was at c.answer_line.ensures))

pub returns-in_err-write_plainly : goal.returns-in_err-write_plainly
returns-in_err-write_plainly g c =
    let p = err_from_is_err_and c.from_residual-in_err-write_plainly.result
    c.from_residual-in_err-write_plainly.ensures.1 in
    let told = g.O.Sink.told in
    let text : c.as_slice.result.now ≡ c.answer_line.new.reply.items = c.as_slice.ensures.value in
    rw (p.1, p.2) (line_failed c.args.config.now.tries c.args.line.now (told c.args.out.now)
    (told c.write_plainly.new.sink) _ _ _ _ (rw c.in_ok-answer_line.was at c.answer_line.ensures)
    (rw (c.in_err-write_plainly.was, text) at c.write_plainly.ensures))

pub returns : goal.returns
returns g c =
    let told = g.O.Sink.told in
    let text : c.as_slice.result.now ≡ c.answer_line.new.reply.items = c.as_slice.ensures.value in
    line_done c.args.config.now.tries c.args.line.now (told c.args.out.now) (told c.write_plainly.new.sink) _ _ _
    (rw c.in_ok-answer_line.was at c.answer_line.ensures)
    (rw (c.in_ok-write_plainly.was, text) at c.write_plainly.ensures)
