-- What a sink tells whose flushes are left to a later one.
use Rattle.std.specs.Prelude.{ℕ, length, option_map}
use Rattle.xet_outside.specs.Told.{SinkTold, through}

-- what the sink below tells, where all counts as flushed that it had taken when a flush was last asked for
abbrev pub later_told : SinkTold → SinkTold → SinkTold
later_told flushed inner = record inner { flushed = option_map length flushed.took }

-- what a borrowed sink tells, by its ghost name
abbrev pub borrowed_told : SinkTold → ℕ → SinkTold
borrowed_told inner name = record inner { link = through name inner.link }
