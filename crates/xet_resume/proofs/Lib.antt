pub mod CallerLemmas
mod AskedStarts
mod Calls
mod Chains
mod Contents
mod Counts
mod GapSteps
mod GoingOn
mod Held
mod PartRuns
mod PlannedBytes
mod Sequences
mod Unlimited
