-- Working words of private functions.
pub mod Credits
pub mod Depends
pub mod Files
pub mod Found
pub mod Indexes
pub mod Keys
pub mod Kept
pub mod Noted
pub mod Open
