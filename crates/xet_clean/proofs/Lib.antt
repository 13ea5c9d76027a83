mod Accepting
pub mod CallerLemmas
mod Completing
mod FoundCuts
mod Feeding
mod FileEnds
mod Holding
mod Taken
mod Taking
