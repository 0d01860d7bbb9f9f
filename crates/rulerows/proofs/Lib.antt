pub mod Laws
pub mod Levels
pub mod Made
pub mod Whole
