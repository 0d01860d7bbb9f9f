pub mod Steps
pub mod Sums
pub mod Bits
pub mod Shelves
pub mod Form
pub mod Facts
pub mod Spans
