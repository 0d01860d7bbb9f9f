pub mod Demand
pub mod Pauses
pub mod Reports
