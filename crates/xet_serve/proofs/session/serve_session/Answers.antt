use Rattle.std.proofs.Common.{◌≡◌, sym, ◌∙◌}
use Rattle.std.specs.Prelude.{Err}
use Rattle.xet_base.proofs.CallerLemmas.{err-of}
use Rattle.xet_serve.specs.declared.serve_error.ServeError.TheVariants as serve_error
use Rattle.xet_serve.proofs.Sessions.{session_refused, session_short, settings_are}
use Rattle.xet_serve.proofs.session.serve_session.Goals as goal

pub returns-in-Some : goal.returns-in-Some
returns-in-Some g c =
    session_refused c.args.config.now _ c.in-Some.setting
    (settings_are g.C.Client.told c.args.config.now c.args.clients.now ∙ sym c.in-Some.ensures)

pub returns-in_err-lines : goal.returns-in_err-lines
returns-in_err-lines g c =
    let e : c.from_residual.result ≡ Err serve_error.OutOfMemory = err-of _ _ c.from_residual.ensures in
    rw e (session_short c.args.config.now _
    (settings_are g.C.Client.told c.args.config.now c.args.clients.now ∙ sym c.in_default.ensures))
