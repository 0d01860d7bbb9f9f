pub mod ByText
pub mod Books
pub mod ByRows
pub mod TwoWays
