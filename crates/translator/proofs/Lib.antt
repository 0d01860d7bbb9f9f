pub mod Measured
pub mod Ends
pub mod Steps
pub mod Passes
pub mod Zero
pub mod Shown
