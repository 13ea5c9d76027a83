use Rattle.std.proofs.Common.{◌≡◌, length, map}
use Rattle.std.specs.Prelude.{string_bytes}
use Rattle.xet_resume_command.specs.Words.{with_words}
use Rattle.xet_resume_command.proofs.wanted.ResumeWanted.with_words.Given as goal

abbrev pub invariant-pairs : goal.invariant-pairs
invariant-pairs l =
    with_words l.fn.self (map string_bytes l.fn.words) ≡ with_words l.wanted (map string_bytes l.rest)

abbrev pub decreases-pairs : goal.decreases-pairs
decreases-pairs l = length l.rest
