use Rattle.xet_parts.proofs.Dues.{due_none, due_one, due_short, due_stopped}
use Rattle.xet_parts.proofs.due_query.next_due.Goals as goal

pub returns-in_default : goal.returns-in_default
returns-in_default g c =
    let looked = c.in-Ok.ensures.ok in
    let none = c.in_default.ensures.none in
    due_none c.args.manager.now c.look_ahead.new.self c.due.new.self (g.X.CancelSignal.told c.args.cancel.now) looked.0 looked.1 c.in-Ok.ensures.ahead none.0 none.1 c.in_default.ensures.kept

pub returns-in-Err-poll : goal.returns-in-Err-poll
returns-in-Err-poll g c =
    let looked = c.in-Ok.ensures.ok in
    let some = c.in-Some.ensures.some in
    due_stopped c.args.manager.now c.look_ahead.new.self c.due.new.self (g.X.CancelSignal.told c.args.cancel.now) (g.X.CancelSignal.told c.poll.new.cancel) c.in-Some.due looked.0 c.in-Err-poll.error looked.1 some.0 some.1 some.2 c.in-Some.ensures.kept c.in-Err-poll.ensures

pub returns-in-Ok-poll : goal.returns-in-Ok-poll
returns-in-Ok-poll g c =
    let looked = c.in-Ok.ensures.ok in
    let some = c.in-Some.ensures.some in
    due_one c.args.manager.now c.look_ahead.new.self c.due.new.self (g.X.CancelSignal.told c.args.cancel.now)
    (g.X.CancelSignal.told c.poll.new.cancel) c.in-Some.due looked.0 looked.1 some.0 some.1 some.2
    c.in-Some.ensures.kept c.in-Ok-poll.ensures

pub returns-in-Err : goal.returns-in-Err
returns-in-Err g c = due_short c.args.manager.now c.look_ahead.new.self (g.X.CancelSignal.told c.args.cancel.now)
    c.in-Err.error c.in-Err.ensures.kept c.in-Err.ensures.memory
