pub mod ClaimPasses
pub mod ClaimViews
pub mod steps
