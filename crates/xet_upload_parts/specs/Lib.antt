pub mod CutNotes
pub mod HashLists
pub mod Storable
pub mod Thresholds
pub mod Tracked
pub mod TrackerCalls
