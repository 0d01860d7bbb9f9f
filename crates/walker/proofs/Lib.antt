pub mod LinkWords
pub mod LinkStep
pub mod Link
pub mod Laws
pub mod Keeps
pub mod Go
pub mod Calls
pub mod Steps
