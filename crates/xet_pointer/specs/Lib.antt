pub mod Endpoints
pub mod Pointers
pub mod steps
pub mod Worked
