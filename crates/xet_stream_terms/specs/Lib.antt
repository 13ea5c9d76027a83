pub mod Admitting
pub mod Handing
pub mod PlanParts
pub mod Planning
pub mod steps
