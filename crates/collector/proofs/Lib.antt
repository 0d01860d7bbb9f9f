pub mod Words
pub mod Rows
pub mod Skips
pub mod Lines
pub mod Standing
pub mod Laws
pub mod Sections
