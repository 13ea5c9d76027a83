-- One event that is recorded.
use Rattle.std.proofs.Common.{◌≡◌, List, [], ◌∷◌, ◌++◌, refl, sym, ◌∙◌, Ok, Err}
use Rattle.std.proofs.lemmas.List.{append-nil}
use Rattle.xet_error.specs.declared.error.FileReconstructionError.TheVariants as error
use Rattle.xet_events.specs.declared.event.Event.{Event}
use Rattle.xet_ties.specs.Recordings.{Recorded}

pub recorded_one : (es fs : List Event) (e : Event) → fs ≡ es ++ e ∷ []
    → Recorded {A = Unit {0}} es fs (e ∷ []) (Ok tt)
recorded_one es fs e added = record { all = added; some = tt; memory = tt }

-- memory was wanting for it
pub recorded_not : (es fs : List Event) (e : Event) → fs ≡ es
    → Recorded {A = Unit {0}} es fs (e ∷ []) (Err error.OutOfMemory)
recorded_not es fs e kept = record { all = tt; some = (0, kept ∙ sym (append-nil es)); memory = refl }
