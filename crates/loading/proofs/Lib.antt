pub mod Facts
pub mod Members
pub mod Ways
pub mod Exact
pub mod Behind
pub mod Files
pub mod Inverse
pub mod Readings
