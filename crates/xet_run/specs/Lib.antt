pub mod Budgets
pub mod CoreCalls
pub mod steps
