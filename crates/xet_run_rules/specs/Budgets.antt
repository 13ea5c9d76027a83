-- What a budget admits.
use Rattle.std.specs.Prelude.{ℕ, ◌≡◌, ◌+◌, ◌<◌, Option, IfSome, IfNone}
use Rattle.xet_run_rules.specs.declared.budget.Admission.{Admission}
use Rattle.xet_run_rules.specs.declared.budget.Budget.{Budget}

-- bytes are unwritten, and with these they would pass the limit
abbrev pub PassesLimit : Budget → ℕ → ℕ → Type 0
PassesLimit b length limit = (b.unwritten ≡ 0 → ⊥) × (limit < b.unwritten + length)

-- a call that admits so many bytes, but where they pass the limit, and then changes nothing
pub record AdmitCall (before after : Budget) (length limit : ℕ) (answer : Option Admission) : Type 0 where
  pub refused : IfNone answer (PassesLimit before length limit)
  pub kept : IfNone answer (after ≡ before)
  pub fits : IfSome answer (λ _. PassesLimit before length limit → ⊥)
  pub given : IfSome answer (λ a. a.length ≡ length)
  pub counted : IfSome answer (λ _. after ≡ record before { unwritten = before.unwritten + length })
