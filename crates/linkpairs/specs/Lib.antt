pub mod Gather
pub mod Standing
pub mod Places
