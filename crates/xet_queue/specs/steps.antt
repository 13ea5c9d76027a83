-- Working words of private functions.
pub mod Batches
pub mod Indexed
pub mod Lending
pub mod PieceSteps
pub mod QueueSteps
pub mod WantedPlaces
pub mod UnorderedSteps
