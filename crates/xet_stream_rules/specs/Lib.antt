pub mod Counts
pub mod MomentCauses
pub mod Moments
pub mod Pulls
pub mod StepTold
pub mod StreamLaws
pub mod Streams
pub mod Unordered
