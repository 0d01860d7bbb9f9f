-- The row of declarations says what crate names says.
pub mod Rows
pub mod Whole
pub mod Lookups
pub mod Declaring
pub mod Uses
