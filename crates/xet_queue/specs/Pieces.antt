-- What the loops over pieces leave in a sink.
use Rattle.std.specs.Prelude.{ℕ, ◌≡◌, ◌+◌, ◌<◌, ◌≤◌, nat_lt, List, [], length, take, drop, filter, get_or, Option}
use Rattle.std.specs.Prelude.{Result, OnOk, IfErr, IsErrOf}
use Rattle.std.specs.List.{concat}
use Rattle.xet_outside.specs.declared.sink.SinkError.{SinkError}
use Rattle.xet_outside.specs.declared.sink.SinkError.TheVariants as sink_error
use Rattle.xet_outside.specs.Told.{SinkTold, Took, Rose}

-- a prefix of these bytes was taken, of at least so many
pub record TookAtLeast (before now : Option (List ℕ)) (least : ℕ) (whole : List ℕ) : Type 0 where
  pub count : ℕ
  pub above : least ≤ count
  pub within : count ≤ length whole
  pub took : Took before now (take count whole)

-- the pieces that have bytes
abbrev pub nonempty : List (List ℕ) → List (List ℕ)
nonempty ps = filter (λ p. nat_lt 0 (length p)) ps

-- the bytes of the first pieces, how many
abbrev pub bytes_before : ℕ → List (List ℕ) → ℕ
bytes_before k ps = length (concat (take k ps))

-- a write failed after so many pieces, so many bytes were taken in all: the next piece has bytes and, where memory was
-- wanting, wasn't taken wholly; and no byte was taken past the pieces that this one write was handed, at most so many
pub record StoppedAt (most : ℕ) (pieces : List (List ℕ)) (whole taken : ℕ) (Memory : Type 0) : Type 0 where
  pub next : 0 < length (get_or pieces whole [])
  pub memory : Memory → taken < bytes_before whole pieces + length (get_or pieces whole [])
  pub handed : taken ≤ bytes_before whole pieces + length (concat (take most (nonempty (drop whole pieces))))

-- some pieces were written until a write failed, so many bytes by what the answers told
pub record StoppedIn (most : ℕ) (before now : Option (List ℕ)) (pieces : List (List ℕ)) (count : ℕ)
    (e : SinkError) : Type 0 where
  pub whole : ℕ
  pub place : bytes_before whole pieces ≤ count
  pub inside : count < bytes_before whole pieces + length (get_or pieces whole [])
  pub took : TookAtLeast before now count (concat pieces)
  pub stopped : StoppedAt most pieces whole took.count (e ≡ sink_error.OutOfMemory)

-- some pieces were written, at most so many by one write, or after an error a prefix of their bytes
pub record WrotePieces (most : ℕ) (before now : SinkTold) (pieces : List (List ℕ)) (count : ℕ)
    (end : Result (Unit {0}) SinkError) : Type 0 where
  pub within : count ≤ length (concat pieces)
  pub whole : OnOk end ((count ≡ length (concat pieces)) × Took before.took now.took (concat pieces))
  pub part : IfErr end (StoppedIn most before.took now.took pieces count)
  pub flushed : now.flushed ≡ before.flushed
  pub link : now.link ≡ before.link
  pub faults : before.faults ≤ now.faults
  pub failed : IsErrOf end sink_error.Failed → Rose before.faults now.faults
  pub unfailed : OnOk end (now.faults ≡ before.faults)
  pub short : IsErrOf end sink_error.OutOfMemory → now.faults ≡ before.faults
