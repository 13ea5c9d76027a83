use Rattle.std.proofs.Common.{◌≡◌, drop, map}
use Rattle.std.specs.Prelude.{string_bytes}
use Rattle.xet_get_command.specs.GetOptions.{no_options, options_from}
use Rattle.xet_get_command.proofs.options.read_options.Given as goal

abbrev pub invariant-loop-word : goal.invariant-loop-word
invariant-loop-word l =
    options_from no_options (map string_bytes l.words) ≡ options_from l.options (drop l.word-index (map string_bytes l.words))
