pub mod Answered
pub mod Measured
