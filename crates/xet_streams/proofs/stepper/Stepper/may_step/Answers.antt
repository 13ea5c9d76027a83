use Rattle.std.proofs.Common.{subst}
use Rattle.xet_streams.specs.steps.Pulling.{AsksFlag}
use Rattle.xet_streams.proofs.AnyParts.{asked_closed, asked_not, asked_so}
use Rattle.xet_streams.proofs.stepper.Stepper.may_step.Goals as goal

pub returns-then-is_none : goal.returns-then-is_none
returns-then-is_none g c = asked_not c.args.self.now c.args.connections

pub returns-then-ask_flag : goal.returns-then-ask_flag
returns-then-ask_flag g c = asked_closed c.args.self.now c.ask_flag.new.self c.args.connections
    (subst (AsksFlag c.args.self.now c.ask_flag.new.self) c.if-ask_flag.true c.ask_flag.ensures)

pub returns : goal.returns
returns g c = asked_so c.args.self.now c.ask_flag.new.self c.can_step.new.self c.args.connections c.can_step.result
    (subst (AsksFlag c.args.self.now c.ask_flag.new.self) c.if-ask_flag.false c.ask_flag.ensures) c.can_step.ensures
