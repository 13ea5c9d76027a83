use Rattle.std.proofs.Common.{take}
use Rattle.xet_resume_command.specs.steps.Filling.{SomeDone}
use Rattle.xet_resume_command.specs.Words.{ranges_of}
use Rattle.xet_resume_command.proofs.Filled.{told_file}
use Rattle.xet_resume_command.proofs.fetching.fetch_all.Given as goal

-- the ranges before this one were fetched
abbrev pub invariant-loop-range : goal.invariant-loop-range
invariant-loop-range g l =
    SomeDone l.store l.wanted (take l.range-index (ranges_of l.wanted)) l.gaps (told_file l.file) l.count
