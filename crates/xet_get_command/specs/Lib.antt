pub mod AnyBytes
pub mod Document
pub mod Get
pub mod GetOptions
pub mod GetWords
pub mod Taps
pub mod Wanted
pub mod steps
