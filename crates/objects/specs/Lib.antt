pub mod Take
pub mod View
pub mod Order
pub mod Whole
pub mod Places
pub mod Cells
