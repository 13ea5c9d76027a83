pub mod CallerLemmas
mod KeptOutcomes
mod Measures
mod PartMeasures
mod RoundRecords
mod StartRefused
mod TurnStarts
mod WindowLeading
mod WindowSteps
