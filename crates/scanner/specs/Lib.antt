pub mod Next
pub mod Scanning
