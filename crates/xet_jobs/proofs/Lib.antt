mod Begins
mod Running
mod Stepping
