pub mod Steps
pub mod Uses
pub mod Answers
pub mod Objects
