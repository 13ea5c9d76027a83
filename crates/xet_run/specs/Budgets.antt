-- The words of budgets that are cited above.
pub use Rattle.xet_run_rules.specs.declared.budget.Admission.{Admission}
