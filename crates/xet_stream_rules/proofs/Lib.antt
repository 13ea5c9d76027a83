pub mod CallerLemmas
mod CausesFrom
mod Lasting
mod Logs
mod NextTasks
mod NoCounts
mod Places
mod Running
mod Staying
mod Terms
