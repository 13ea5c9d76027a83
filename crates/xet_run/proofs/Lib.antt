mod Additions
mod Fronts
mod Keys
mod Replays
mod Steps
mod TermSteps
mod Wanted
