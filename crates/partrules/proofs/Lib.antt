pub mod Marking
pub mod Calling
pub mod Writing
pub mod Seeing
pub mod Opening
pub mod Ruling
pub mod Facts
