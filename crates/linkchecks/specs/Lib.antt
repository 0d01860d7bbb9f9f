pub mod Row
pub mod Walk
pub mod Checks
