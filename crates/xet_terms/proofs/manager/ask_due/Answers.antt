use Rattle.std.proofs.Common.{◌≡◌, ◌+◌, ◌<◌, ◌≤◌, Ok, Err, ap, length, arith}
use Rattle.std.proofs.lemmas.Option.{slice_get_within}
use Rattle.xet_base.proofs.CallerLemmas.{err-of}
use Rattle.xet_error.specs.declared.error.FileReconstructionError.{FileReconstructionError}
use Rattle.xet_terms.specs.Managers.{Manager}
use Rattle.xet_terms.specs.NextTerms.{AskCall}
use Rattle.xet_terms.proofs.Asking.{accepted_shorter, asking_done, asking_fails, asking_more, asking_start, due_memory}
use Rattle.xet_terms.proofs.manager.ask_due.Goals as goal

pub returns-in_err-look_ahead : goal.returns-in_err-look_ahead
returns-in_err-look_ahead g c =
    let fault : FileReconstructionError = c.in_err-look_ahead.field-0.0 in
    let e : c.from_residual.result ≡ Err fault = err-of _ _ c.from_residual.ensures in
    rw e (due_memory c.args.manager.now c.reopen.new.self c.look_ahead.new.self (g.C.Client.told c.args.client.now) fault c.reopen.ensures.queries c.in_err-look_ahead.ensures.kept c.in_err-look_ahead.ensures.memory)

pub due-init : goal.due-init
due-init g c =
    let looked = c.in_ok-look_ahead.ensures.ok in
    asking_start c.args.manager.now c.reopen.new.self c.look_ahead.new.self (g.C.Client.told c.args.client.now) looked.0 c.reopen.ensures.queries c.reopen.ensures.kept looked.1 c.in_ok-look_ahead.ensures.ahead

pub due-smaller : goal.due-smaller
due-smaller g c =
    let last : Manager = c.due.manager in
    let d : Manager = c.due-in-due.new.self in
    let some = c.in-Some.ensures.some in
    let within : last.asked < length last.queries = slice_get_within last.queries last.asked c.in-Some.due.query some.0 in
    let call : AskCall d c.ask.new.self (g.C.Client.told c.due.client) (g.C.Client.told c.ask.new.client) c.in-Some.due.query c.in-Some.due.id (Ok tt) = c.in_ok-ask.ensures in
    let short = accepted_shorter d c.ask.new.self (g.C.Client.told c.due.client) (g.C.Client.told c.ask.new.client) c.in-Some.due.query c.in-Some.due.id call in
    let asked : d.asked ≡ last.asked + 1 = ap (λ (m : Manager). m.asked) some.2 in
    let queries : length d.queries ≡ length last.queries = ap (λ (m : Manager). length m.queries) some.2 in
    let s : length c.ask.new.self.queries ≤ length d.queries = short.0 in
    let t : c.ask.new.self.asked ≡ d.asked = short.1 in
    omega arith

pub due-preserved : goal.due-preserved
due-preserved g c =
    let told = g.C.Client.told in
    let some = c.in-Some.ensures.some in
    asking_more c.args.manager.now c.due.manager c.due-in-due.new.self c.ask.new.self (told c.args.client.now) (told c.due.client) (told c.ask.new.client) c.in-Some.due.query c.in-Some.due.id
    c.due.invariant some.0 some.1 some.2 c.in-Some.ensures.kept c.in_ok-ask.ensures

pub returns-in_err-ask : goal.returns-in_err-ask
returns-in_err-ask g c =
    let told = g.C.Client.told in
    let some = c.in-Some.ensures.some in
    let fault : FileReconstructionError = c.in_err-ask.field-0.0 in
    let e : c.from_residual-in_err-ask.result ≡ Err fault = err-of _ _ c.from_residual-in_err-ask.ensures in
    rw e (asking_fails c.args.manager.now c.due.manager c.due-in-due.new.self c.ask.new.self (told c.args.client.now) (told c.due.client) (told c.ask.new.client) c.in-Some.due.query c.in-Some.due.id fault
    c.due.invariant some.0 some.1 some.2 c.in_err-ask.ensures)

pub returns : goal.returns
returns g c =
    let told = g.C.Client.told in
    let none = c.in_default.ensures.none in
    asking_done c.args.manager.now c.due.manager c.due-in-due.new.self (told c.args.client.now) (told c.due.client) c.due.invariant none.0 none.1 c.in_default.ensures.kept
