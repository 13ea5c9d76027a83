pub mod Admissions
pub mod DueQueries
pub mod Offers
pub mod PlanAsks
pub mod PlanRefreshes
pub mod Stops
