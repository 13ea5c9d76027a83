-- Limits that follow the running downloads.
use Rattle.std.specs.Prelude.{ℕ, ◌≡◌, ◌+◌, ◌*◌, min}
use Rattle.std.specs.Arc.{arc_value}
use Rattle.xet_events.specs.declared.budget_book.BookView.{BookView}
use Rattle.xet_events.specs.declared.budget_book.BudgetSettings.{BudgetSettings}

-- the limit while so many downloads run: the base and a part for each, but never more than the limit of all
abbrev pub target_of : BudgetSettings → ℕ → ℕ
target_of s running = min s.limit (s.base + running * s.per_file)

-- the number is the limit of these settings for some number of running downloads
abbrev pub IsTarget : BudgetSettings → ℕ → Type 0
IsTarget s n = (running : ℕ) × (n ≡ target_of s running)

-- the limit of all that the book of a view has, which none of its answers passes
abbrev pub book_limit : BookView → ℕ
book_limit v = (arc_value v.book).settings.limit
