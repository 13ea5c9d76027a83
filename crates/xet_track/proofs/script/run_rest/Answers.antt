use Rattle.std.specs.Prelude.{OnErr, Result, Ok, Err}
use Rattle.xet_track.specs.Turns.{text_left}
use Rattle.xet_track.proofs.Running.{part_of}
use Rattle.xet_track.proofs.script.run_rest.Goals as goal

on_err : {A E P : Type 0} (answer : Result A E) → P → OnErr answer P
on_err (Ok a) p = tt
on_err (Err e) p = p

pub returns-in_err-step-clause-memory : goal.returns-in_err-step-clause-memory
returns-in_err-step-clause-memory c = on_err c.from_residual.result (part_of c.args.out.now.items c.lines.out.items c.step.new.out.items (text_left c.args.run.now) (text_left c.lines.run) c.lines.invariant.part c.lines.invariant.text c.in_err-step.ensures.memory.1)
