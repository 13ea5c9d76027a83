pub mod Lines
pub mod Numbers
pub mod Script
pub mod Texts
pub mod Turns
pub mod steps
