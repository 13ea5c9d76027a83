mod Buffers
pub mod CallerLemmas
mod DigitTexts
mod Lines
mod Ranges
