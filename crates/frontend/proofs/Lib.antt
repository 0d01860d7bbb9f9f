pub mod Steps
pub mod Few
pub mod Joining
pub mod Ordering
pub mod Rests
pub mod Passes
pub mod Buffers
pub mod Meant
