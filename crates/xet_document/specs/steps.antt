-- Working words of private functions.
pub mod AddedMembers
pub mod ChunkEnds
pub mod Leads
pub mod Placed
pub mod Reads
