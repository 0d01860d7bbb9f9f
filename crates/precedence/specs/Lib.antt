pub mod Sums
pub mod Text
