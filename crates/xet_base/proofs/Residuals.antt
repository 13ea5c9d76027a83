-- What `?` answers of an error.
use Rattle.std.specs.Prelude.{◌≡◌, Err, IsErr, IsErrAnd, Ok, Result}
use Rattle.std.proofs.Common.{ap}
use Rattle.std.proofs.lemmas.Bool.{false≢true}

pub err-of : {T E : Type 0} (r : Result T E) (x : E) → IsErr r × IsErrAnd r (λ y. y ≡ x) → r ≡ Err x
err-of (Ok a) x h = absurd (false≢true h.0)
err-of (Err y) x h = ap Err h.1
