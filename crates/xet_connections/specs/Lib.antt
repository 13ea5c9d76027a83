pub mod HonestPlans
pub mod Scripts
