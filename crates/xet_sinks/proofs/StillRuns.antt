-- A call that doesn't answer `Failed` doesn't stop what runs.
use Rattle.std.proofs.Common.{◌≡◌, ◌⊎◌, inl, inr, ℕ, Bool, true, Ok, Err, IsErrOf}
use Rattle.xet_outside.specs.declared.sink.SinkError.{SinkError}
use Rattle.xet_outside.specs.declared.sink.SinkError.TheVariants.{Failed, OutOfMemory}

-- the second of two is false
first_of : (A B : Type 0) → (B → A) → A ⊎ B → A
first_of A B f (inl a) = a
first_of A B f (inr b) = f b

-- it answered a number
pub not_failed_ok : (before after : Bool) (n : ℕ)
    → (after ≡ true → (before ≡ true) ⊎ IsErrOf {T = ℕ} {E = SinkError} (Ok n) Failed)
    → after ≡ true → before ≡ true
not_failed_ok before after n runs h =
    first_of _ _ (λ z. absurd (let e : IsErrOf {T = ℕ} {E = SinkError} (Ok n) Failed = z in cc)) (runs h)

-- it found no memory
pub not_failed_memory : (before after : Bool)
    → (after ≡ true → (before ≡ true) ⊎ IsErrOf {T = ℕ} {E = SinkError} (Err OutOfMemory) Failed)
    → after ≡ true → before ≡ true
not_failed_memory before after runs h =
    first_of _ _ (λ z. absurd (let e : IsErrOf {T = ℕ} {E = SinkError} (Err OutOfMemory) Failed = z in cc)) (runs h)
