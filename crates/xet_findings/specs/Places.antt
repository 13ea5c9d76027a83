-- Where the chunks of a xorb stand among its bytes.
use Rattle.std.specs.Prelude.{ℕ, ◌+◌, List, length, map, take}
use Rattle.std.specs.List.{concat, range_with_len}

-- how many bytes stand before each chunk, and behind the last
abbrev pub places_of : List (List ℕ) → List ℕ
places_of cs = map (λ k. length (concat (take k cs))) (range_with_len 0 (length cs + 1))
