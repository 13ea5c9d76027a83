pub mod Audit
pub mod steps
