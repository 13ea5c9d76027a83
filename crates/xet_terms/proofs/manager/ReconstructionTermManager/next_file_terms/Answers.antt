use Rattle.std.proofs.Common.{◌≡◌, None, rules}
use Rattle.xet_terms.proofs.Asking.{next_err, next_handed}
use Rattle.xet_terms.proofs.manager.ReconstructionTermManager.next_file_terms.Goals as goal

pub returns-in-Ok : goal.returns-in-Ok
returns-in-Ok g c =
    let told = g.C.Client.told in
    let none : c.args.self.now.failed ≡ None = rw (← c.self.view_is) (search rules) in
    next_handed c.args.self.now c.ask_due.new.manager c.hand_out.new.self (told c.args.client.now) (told c.ask_due.new.client) c.hand_out.result none c.in-Ok.ensures c.hand_out.ensures

pub returns-in-Err : goal.returns-in-Err
returns-in-Err g c =
    let told = g.C.Client.told in
    let none : c.args.self.now.failed ≡ None = rw (← c.self.view_is) (search rules) in
    next_err c.args.self.now c.ask_due.new.manager c.fail.new.self (told c.args.client.now) (told c.ask_due.new.client) c.in-Err.error none c.in-Err.ensures c.fail.ensures
