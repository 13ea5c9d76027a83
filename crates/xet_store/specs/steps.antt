pub mod Joined
pub mod Marks
pub mod TermRefusals
pub mod UsedXorbs
