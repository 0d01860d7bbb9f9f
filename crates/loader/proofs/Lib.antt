pub mod Laws
pub mod Passing
pub mod Visits
pub mod Reaches
pub mod Filing
pub mod Loading
