mod Held
mod Nothing
