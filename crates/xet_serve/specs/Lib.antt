pub mod Laws
pub mod Replies
pub mod Sessions
pub mod steps
