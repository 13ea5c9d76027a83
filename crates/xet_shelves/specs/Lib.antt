pub mod After
pub mod Laws
pub mod Shelves
pub mod steps
