pub mod Answered
pub mod Linking
