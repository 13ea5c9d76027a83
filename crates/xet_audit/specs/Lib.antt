pub mod Findings
pub mod Laws
pub mod Raws
pub mod steps
