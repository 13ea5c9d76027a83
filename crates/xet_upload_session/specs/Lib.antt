pub mod Calls
pub mod Completions
pub mod Puts
pub mod Sessions
pub mod Sounds
pub mod Telling
pub mod Trackings
pub mod steps
