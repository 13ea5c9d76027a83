-- What an error says of the signal, and of the tries that are left.
use Rattle.std.proofs.Common.{◌≡◌, ℕ, ◌<◌, List, Err, Some, false, refl, sym, subst, arith, inl, inr}
use Rattle.std.specs.Prelude.{count_by}
use Rattle.xet_error.specs.declared.error.FileReconstructionError.{FileReconstructionError}
use Rattle.xet_error.specs.declared.error.FileReconstructionError.TheVariants as error
use Rattle.xet_events.specs.declared.event.Event.{Event}
use Rattle.xet_events.specs.Events.{expires}
use Rattle.xet_parts.specs.Stops.{IsStopped}
use Rattle.xet_ties.specs.RunCalls.{IsCancelled, IsUnspent}
use Rattle.xet_ties.specs.Setup.{Setup}
use Rattle.xet_ties.specs.PartCalls.{stop_event}
use Rattle.xet_ties.specs.Ties.{IsFaultless}
use Rattle.xet_leader.proofs.QuietEvents.{quiet_under}

-- where the signal said no, any error may be answered
pub calm_halted : (b n : ℕ) (e : FileReconstructionError) → n ≡ b → b < n → IsCancelled (Err e)
calm_halted b n e same rose = absurd (omega (arith, same, rose))

-- want of memory says nothing of either
pub memory_halted : (e : FileReconstructionError) → e ≡ error.OutOfMemory → IsCancelled (Err e)
memory_halted e h = subst (λ (x : FileReconstructionError). IsCancelled (Err x)) (sym h) tt

pub memory_spent : {A : Type 0} (e : FileReconstructionError) → e ≡ error.OutOfMemory → IsUnspent (Some e) → A
memory_spent e h u = absurd (subst (λ (x : FileReconstructionError). IsUnspent (Some x)) h u)

-- an error that ends a run between its turns is faultless
pub unspent_faultless : (e : FileReconstructionError) → IsUnspent (Some e) → IsFaultless (Some e)
unspent_faultless error.OutOfMemory u = absurd u
unspent_faultless error.ClientError u = absurd u
unspent_faultless error.FileNotFound u = tt
unspent_faultless error.UrlExpired u = absurd u
unspent_faultless error.IoError u = absurd u
unspent_faultless (error.CorruptedReconstruction k) u = absurd u
unspent_faultless (error.ConfigurationError s) u = absurd u
unspent_faultless error.Cancelled u = tt
unspent_faultless (error.InternalWriterError w) u = absurd u

-- after the error was recorded, or memory was wanting for that
pub stopped_halted : (es fs : List Event) (e x : FileReconstructionError) → IsStopped es fs e x → IsCancelled (Err e)
    → IsCancelled (Err x)
stopped_halted es fs e x (inl h) c = subst (λ (y : FileReconstructionError). IsCancelled (Err y)) (sym h.0) c
stopped_halted es fs e x (inr h) c = memory_halted x h.0

stop_quiet : (e : FileReconstructionError) (p k : ℕ) → expires p k (stop_event e) ≡ false
stop_quiet error.OutOfMemory p k = refl
stop_quiet error.ClientError p k = refl
stop_quiet error.FileNotFound p k = refl
stop_quiet error.UrlExpired p k = refl
stop_quiet error.IoError p k = refl
stop_quiet (error.CorruptedReconstruction c) p k = refl
stop_quiet (error.ConfigurationError s) p k = refl
stop_quiet error.Cancelled p k = refl
stop_quiet (error.InternalWriterError w) p k = refl

pub stopped_under : (g : Setup) (es fs : List Event) (e x : FileReconstructionError) → IsStopped es fs e x
    → (IsUnspent (Some e) → (p k : ℕ) → count_by (expires p k) es < g.tries)
    → IsUnspent (Some x) → (p k : ℕ) → count_by (expires p k) fs < g.tries
stopped_under g es fs e x (inl h) under u p k =
    subst (λ (l : List Event). count_by (expires p k) l < g.tries) (sym h.1)
    (quiet_under g es (stop_event e) (stop_quiet e)
    (under (subst (λ (y : FileReconstructionError). IsUnspent (Some y)) h.0 u)) p k)
stopped_under g es fs e x (inr h) under u p k = memory_spent x h.0 u
