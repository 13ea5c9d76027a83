pub mod Accepted
pub mod Counts
pub mod Group
pub mod Items
pub mod Replies
pub mod Rows
pub mod steps
