pub mod CallerLemmas
mod GetNumbers
pub mod Stops
pub mod TwoTexts
pub mod WholeInputs
