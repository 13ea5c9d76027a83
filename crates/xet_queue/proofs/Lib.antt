pub mod CallerLemmas
mod Batches
mod Completing
mod Each
mod FirstNumbers
mod Gone
mod Indexes
mod Joined
mod Lent
mod Passing
mod Places
mod Sending
mod Stops
mod Terms
