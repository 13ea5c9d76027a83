-- What reading an input to its end answers.
use Rattle.std.specs.Prelude.{ℕ, ◌≡◌, ◌⊎◌, ◌<◌, ◌≤◌, List, [], length, Some, Result, Err, IfOk, Vec}
use Rattle.std.specs.declared.alloc.Global.{Global}
use Rattle.xet_outside.specs.Told.{Rose, SourceTold}
use Rattle.xet_room.specs.declared.reading.ReadError.{ReadError}
use Rattle.xet_room.specs.declared.reading.ReadError.TheVariants as read_error

pub record ReadAll (b n : SourceTold) (limit : ℕ) (answer : Result (Vec ℕ Global) ReadError) : Type 0 where
  pub bytes : (xs : List ℕ) → b.left ≡ Some xs
      → IfOk answer (λ v. (v.items ≡ xs) × (length xs ≤ limit) × (n.left ≡ Some []))
  pub most : IfOk answer (λ v. length v.items ≤ limit)
  pub too_long : (xs : List ℕ) → b.left ≡ Some xs → answer ≡ Err read_error.TooLong → limit < length xs
  pub fault : answer ≡ Err read_error.Fault → Rose b.faults n.faults
  pub faults : b.faults ≤ n.faults
  pub unfailed : (n.faults ≡ b.faults) ⊎ (answer ≡ Err read_error.Fault)
