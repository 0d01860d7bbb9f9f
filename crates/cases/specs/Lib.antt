pub mod Cases
pub mod Refusals
pub mod Acceptances
pub mod Agreements
pub mod Before
