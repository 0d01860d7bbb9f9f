pub mod Marks
pub mod Calls
pub mod Words
pub mod Opened
