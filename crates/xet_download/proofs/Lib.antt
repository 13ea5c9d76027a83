mod Bounds
mod Calling
mod Exact
mod Flags
mod Refusals
mod Streaming
