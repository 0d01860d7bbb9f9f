pub mod Flags
pub mod Told
