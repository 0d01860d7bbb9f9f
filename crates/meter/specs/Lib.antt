pub mod Shaped
pub mod Makes
pub mod Steps
pub mod Found
pub mod Starts
pub mod Store
