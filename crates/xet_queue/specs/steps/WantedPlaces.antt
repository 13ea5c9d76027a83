-- Where the wanted terms of a queue stand.
use Rattle.std.specs.Prelude.{ℕ, ◌+◌, List, [], ◌∷◌, cond, is_none}
use Rattle.xet_queue.specs.declared.queued_term.QueuedTerm.{QueuedTerm}
use Rattle.xet_queue.specs.declared.queued_term.WantedPlace.{WantedPlace}

-- where a term stands that has this number
abbrev pub place_of : ℕ → QueuedTerm → WantedPlace
place_of n t = record { start = t.byte_range.start; number = n }

-- the starts and the numbers of the wanted terms, where the first term of the queue has this number
abbrev pub places_of : ℕ → List QueuedTerm → List WantedPlace
places_of n [] = []
places_of n (t ∷ ts) = cond (is_none t.bytes) (place_of n t ∷ places_of (n + 1) ts) (places_of (n + 1) ts)
