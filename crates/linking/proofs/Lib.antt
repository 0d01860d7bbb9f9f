pub mod Checking
pub mod Common
pub mod Answers
pub mod Rules
pub mod Single
