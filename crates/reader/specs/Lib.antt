pub mod Answers
pub mod Parts
pub mod Counting
pub mod Texts
