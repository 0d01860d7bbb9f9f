-- Laws of the definitions.
pub mod Laws
pub mod Walks
pub mod Calls
pub mod Processing
pub mod Zero
pub mod Screens
pub mod Facts
