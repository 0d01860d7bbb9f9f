pub mod Walking
pub mod Rows
pub mod Finding
pub mod Placing
pub mod Facts
