pub mod Program
pub mod Past
pub mod Table
pub mod Accepted
pub mod Made
pub mod Labels
