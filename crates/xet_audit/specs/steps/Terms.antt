-- What the terms of a file come to.
use Rattle.std.specs.Prelude.{ℕ, ◌+◌, ◌-◌, ◌^◌, Bool, List, Option, Some, None, cond, false, is_none, min, nat_le, true}
use Rattle.std.specs.List.{list_all, sum_by}
use Rattle.xet_base.specs.declared.stored.StoredTerm.{StoredTerm}
use Rattle.xet_base.specs.Store.{Store, xorb_of}
use Rattle.xet_store.specs.Refusals.{is_term_in, term_length}
use Rattle.xet_audit.specs.declared.term_state.TermState.{TermState}
use Rattle.xet_audit.specs.declared.term_state.TermState.TheVariants.{Inside, Outside, Unnamed}

-- what a term comes to
abbrev pub state_of : Store → StoredTerm → TermState
state_of s t = cond (is_none (xorb_of s t.xorb)) Unnamed (cond (is_term_in s t) (Inside (term_length s t)) Outside)

abbrev pub is_unnamed : TermState → Bool
is_unnamed Unnamed = true
is_unnamed Outside = false
is_unnamed (Inside n) = false

abbrev pub is_outside_state : TermState → Bool
is_outside_state Unnamed = false
is_outside_state Outside = true
is_outside_state (Inside n) = false

-- how many bytes some terms have together, at most 2^128 - 1, where all name chunks
abbrev pub length_of : Store → List StoredTerm → Option ℕ
length_of s ts = cond (list_all (is_term_in s) ts) (Some (min (sum_by (term_length s) ts) (2 ^ 128 - 1))) None

-- the same with one term more
abbrev pub longer : Option ℕ → TermState → Option ℕ
longer (Some n) (Inside m) = Some (min (n + m) (2 ^ 128 - 1))
longer (Some n) Outside = None
longer (Some n) Unnamed = None
longer None t = None

-- there are 2^64 bytes or more
abbrev pub is_long : Option ℕ → Bool
is_long (Some n) = nat_le (2 ^ 64) n
is_long None = false
