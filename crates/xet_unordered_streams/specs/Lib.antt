pub mod ItemLaws
pub mod Items
pub mod Placing
pub mod steps
