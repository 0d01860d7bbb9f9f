pub mod Derived
pub mod Labels
