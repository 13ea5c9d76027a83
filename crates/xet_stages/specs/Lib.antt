pub mod Measures
pub mod Outcomes
pub mod RoundRecords
pub mod RunWindows
pub mod TurnStarts
pub mod Windows
