mod ErrorCauses
mod FirstErrors
mod LaneSteps
mod Requests
pub mod CallerLemmas
