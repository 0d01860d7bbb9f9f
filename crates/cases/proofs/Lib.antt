-- The tables of cases, each under one statement.
pub mod Hold
pub mod Agree
pub mod Before
pub mod Limits
