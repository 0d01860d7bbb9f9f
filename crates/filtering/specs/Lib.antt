pub mod Filter
pub mod Accepted
