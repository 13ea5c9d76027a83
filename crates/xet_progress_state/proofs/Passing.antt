-- When the tests of a call pass and fail.
use Rattle.std.proofs.Common.{◌≡◌, ℕ, ◌+◌, ◌<◌, ◌^◌, cond, ap}
use Rattle.std.specs.Prelude.{Some, None}
use Rattle.std.proofs.lemmas.Bool.{lt-ltb}
use Rattle.xet_base.specs.declared.invalid.Invalid.TheVariants.{SumTooGreat}
use Rattle.xet_progress_state.specs.Accepted.{too_great}

pub too_great_fits : (have add : ℕ) → have + add < 2 ^ 64 → too_great have add ≡ None
too_great_fits have add h = ap (λ b. cond b None (Some (SumTooGreat have add))) (lt-ltb (have + add) (2 ^ 64) h)
