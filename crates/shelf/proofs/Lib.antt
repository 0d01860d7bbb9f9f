pub mod Theorem
pub mod Books
pub mod Rows
pub mod TwoWays
