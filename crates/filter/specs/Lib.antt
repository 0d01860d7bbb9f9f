pub mod Working
pub mod Told
