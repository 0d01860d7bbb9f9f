pub mod Appending
pub mod Looking
pub mod Outcomes
pub mod Rests
pub mod Ranking
pub mod Plains
pub mod Choosing
pub mod Labelling
