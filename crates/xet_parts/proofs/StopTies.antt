-- The ties after the error by which a run ends was recorded.
use Rattle.std.proofs.Common.{◌≡◌, ℕ, List, [], ◌∷◌, ◌++◌, Some, None, sym, subst, ⊎_elim}
use Rattle.std.specs.Prelude.{count_by}
use Rattle.xet_outside.specs.Told.{ClientTold}
use Rattle.xet_error.specs.declared.error.FileReconstructionError.{FileReconstructionError}
use Rattle.xet_error.specs.declared.error.FileReconstructionError.TheVariants as error
use Rattle.xet_events.specs.declared.event.Event.{Event}
use Rattle.xet_events.specs.Events.{expires}
use Rattle.xet_ties.specs.Causes.{Cause}
use Rattle.xet_ties.specs.InCall.{Exchange}
use Rattle.xet_ties.specs.Setup.{RunTold, Setup}
use Rattle.xet_ties.specs.PartCalls.{stop_event}
use Rattle.xet_ties.specs.Ties.{MayLeave, Slack, Ties}
use Rattle.xet_ties.proofs.CallerLemmas.{short_leaves, tie_short, tie_stop}
use Rattle.xet_parts.specs.Stops.{IsStopped}

-- where the answer is the run's, it is tied to what was recorded
pub stopped_ties : (g : Setup) (b n : RunTold) (es fs : List Event) (sl : Slack) (x answer : FileReconstructionError) → IsStopped es fs x answer
    → (x ≡ error.UrlExpired → (p : ℕ) × (k : ℕ) × (count_by (expires p k) es ≡ g.tries)) → Ties g b n es None sl → Ties g b n fs (Some answer) sl
stopped_ties g b n es fs sl x answer s spent t =
    ⊎_elim
    (λ (h : (answer ≡ x) × (fs ≡ es ++ stop_event x ∷ [])).
    subst (λ (l : List Event). Ties g b n l (Some answer) sl) (sym h.1)
    (subst (λ (a : FileReconstructionError). Ties g b n (es ++ stop_event x ∷ []) (Some a) sl) (sym h.0) (tie_stop g b n es sl x spent t)))
    (λ (h : (answer ≡ error.OutOfMemory) × (fs ≡ es)).
    subst (λ (l : List Event). Ties g b n l (Some answer) sl) (sym h.1)
    (subst (λ (a : FileReconstructionError). Ties g b n es (Some a) sl) (sym h.0) (tie_short g b n es sl t)))
    s

-- it has a cause where the error has one
pub stopped_cause : (g : Setup) (xs : List Exchange) (b n : RunTold) (es fs : List Event) (x answer : FileReconstructionError) → IsStopped es fs x answer → Cause g xs b n x → Cause g xs b n answer
stopped_cause g xs b n es fs x answer s c =
    ⊎_elim
    (λ (h : (answer ≡ x) × (fs ≡ es ++ stop_event x ∷ [])). subst (Cause g xs b n) (sym h.0) c)
    (λ (h : (answer ≡ error.OutOfMemory) × (fs ≡ es)). subst (Cause g xs b n) (sym h.0) tt)
    s

-- and it may leave open what the error may
pub stopped_leaves : (bs : List ClientTold) (sl : Slack) (es fs : List Event) (x answer : FileReconstructionError) → IsStopped es fs x answer → MayLeave (Some x) bs sl → MayLeave (Some answer) bs sl
stopped_leaves bs sl es fs x answer s l =
    ⊎_elim
    (λ (h : (answer ≡ x) × (fs ≡ es ++ stop_event x ∷ [])). subst (λ (a : FileReconstructionError). MayLeave (Some a) bs sl) (sym h.0) l)
    (λ (h : (answer ≡ error.OutOfMemory) × (fs ≡ es)). subst (λ (a : FileReconstructionError). MayLeave (Some a) bs sl) (sym h.0) (short_leaves bs sl))
    s
