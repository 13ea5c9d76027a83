pub mod CallerLemmas
mod Cleaning
mod FileCalls
mod Finding
mod Learned
mod Naming
mod Pending
mod Picked
mod Places
mod Puts
mod SessionCalls
mod Turns
mod Worlds
