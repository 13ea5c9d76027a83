mod Fetching
mod Filing
mod Making
