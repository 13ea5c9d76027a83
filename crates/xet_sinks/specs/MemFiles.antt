-- Files in memory.
use Rattle.std.specs.Prelude.{ℕ, ◌≡◌, ◌+◌, ◌≤◌, List, length, drop, Some}
use Rattle.xet_outside.specs.Places.{put_at}
use Rattle.xet_outside.specs.Told.{SinkTold, into_place}

-- what was taken since the place was set stands in the content from there on
pub record MemStands (content : List ℕ) (place : ℕ) (took : List ℕ)
    (set_content : List ℕ) (set_place set_taken : ℕ) : Type 0 where
  pub content_is : content ≡ put_at set_content set_place (drop set_taken took)
  pub place_is : place ≡ set_place + length (drop set_taken took)
  pub within : set_taken ≤ length took

-- what a file in memory tells
abbrev pub mem_told : List ℕ → ℕ → List ℕ → ℕ → ℕ → SinkTold
mem_told took flushed content place taken = record {
  took = Some took;
  flushed = Some flushed;
  faults = 0;
  link = into_place (record { content = content; place = place; taken = taken });
}
