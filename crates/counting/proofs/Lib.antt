pub mod Link
pub mod Loop
pub mod Form
pub mod Adds
pub mod Rules
