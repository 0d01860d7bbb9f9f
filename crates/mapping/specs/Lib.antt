pub mod Mapping
pub mod Parts
