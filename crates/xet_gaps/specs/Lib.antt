pub mod Gaps
pub mod Laws
pub mod Texts
pub mod steps
