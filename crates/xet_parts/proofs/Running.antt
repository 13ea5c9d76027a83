-- A history without an error has no cancel.
use Rattle.std.proofs.Common.{◌≡◌, false, List, [], ◌∷◌, None, refl}
use Rattle.std.specs.List.{list_any}
use Rattle.xet_events.specs.declared.event.Event.{Event}
use Rattle.xet_events.specs.declared.event.Event.TheVariants.{Planned, Admit, Fetched, Cached, Expired, Refreshed, Wrote, Fail, Cancel}
use Rattle.xet_events.specs.Events.{first_error, is_cancel}

pub running_uncancelled : (es : List Event) → first_error es ≡ None → list_any is_cancel es ≡ false
running_uncancelled [] h = refl
running_uncancelled (Planned plan query terms blocks ∷ es) h = running_uncancelled es h
running_uncancelled (Admit limit ∷ es) h = running_uncancelled es h
running_uncancelled (Fetched lane plan block ∷ es) h = running_uncancelled es h
running_uncancelled (Cached plan block ∷ es) h = running_uncancelled es h
running_uncancelled (Expired lane plan block ∷ es) h = running_uncancelled es h
running_uncancelled (Refreshed plan ∷ es) h = running_uncancelled es h
running_uncancelled (Wrote taken ∷ es) h = running_uncancelled es h
running_uncancelled (Fail error ∷ es) h = absurd (cc)
running_uncancelled (Cancel ∷ es) h = absurd (cc)
