pub mod Known
pub mod Declare
pub mod Uses
pub mod Resolve
pub mod Understand
