-- What a sink with a buffer tells, and what the sink below it lacks.
use Rattle.std.specs.Prelude.{ℕ, List, ◌++◌, Option, option_map}
use Rattle.xet_outside.specs.Told.{SinkTold, Took, over}

-- what is told over an inner sink that told `start` at first and `known` when the buffer was last empty: what that
-- sink had taken then, and then the buffer
abbrev pub buffered_told : SinkTold → SinkTold → SinkTold → List ℕ → SinkTold
buffered_told start known now buffer = record {
  took = option_map (λ xs. xs ++ buffer) known.took;
  flushed = now.flushed;
  faults = now.faults;
  link = over start.took now.link;
}

-- the sink below took a front of what is told: these bytes are missing
pub record Lacks (below told : Option (List ℕ)) : Type 0 where
  pub missing : List ℕ
  pub took : Took below told missing
