pub mod Close
pub mod Place
