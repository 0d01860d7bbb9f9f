pub mod View
pub mod Shape
pub mod Steps
pub mod Linked
