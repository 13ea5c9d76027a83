pub mod Buffers
pub mod Faults
pub mod HexText
pub mod MemFiles
pub mod Scripts
pub mod steps
