pub mod Reach
pub mod Taking
pub mod File
pub mod Inverse
pub mod Reading
pub mod Promise
