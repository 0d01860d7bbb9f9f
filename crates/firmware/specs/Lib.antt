pub mod Writes
pub mod Entries
pub mod Processing
pub mod Filing
pub mod Turning
