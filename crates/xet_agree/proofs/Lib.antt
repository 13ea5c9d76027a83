mod Found
mod Agreeing
mod Chunks
mod Passing
