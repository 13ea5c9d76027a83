use Rattle.std.proofs.Common.{refl}
use Rattle.xet_serve.proofs.Turns.{line_turned, over_turned}
use Rattle.xet_serve.proofs.turn.take_turn.Goals as goal

pub returns-in-Line : goal.returns-in-Line
returns-in-Line g c =
    line_turned c.args.config.now.tries _ _ _ _ c.requires.within _ c.in-Line.ensures refl
    (rw c.line.ensures at c.line_turn.ensures)

pub returns-in-TooLong : goal.returns-in-TooLong
returns-in-TooLong g c =
    over_turned c.args.config.now.tries _ _ _ _ c.requires.within _ c.in-TooLong.ensures.0 refl refl refl c.over_turn.ensures

pub read_turn-requires-clause-waiting : goal.read_turn-requires-clause-waiting
read_turn-requires-clause-waiting g c κs within = rw c.in-Short.ensures.1 c.in-Short.ensures.0

pub read_turn-requires-clause-within : goal.read_turn-requires-clause-within
read_turn-requires-clause-within g c κs within = rw c.in-Short.ensures.1 c.requires.within

pub returns-in-Short : goal.returns-in-Short
returns-in-Short g c = rw c.in-Short.ensures.1 at c.read_turn.ensures
