use Rattle.std.proofs.Common.{◌≡◌, false, rules}
use Rattle.std.specs.Prelude.{codes}
use Rattle.std.specs.Str.{bytes_eq}
use Rattle.xet_commands.specs.Commands.{session_command_with}
use Rattle.xet_commands.proofs.commands.read_last.Goals as goal

pub returns-in_default-clause-command : goal.returns-in_default-clause-command
unfolding session_command_with
returns-in_default-clause-command c =
    let other : bytes_eq c.args.name.now (codes "resume") ≡ false = search rules in
    rw other c.read_session.ensures.command
