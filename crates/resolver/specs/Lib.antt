pub mod Resolved
pub mod Parts
