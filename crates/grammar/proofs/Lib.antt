-- A text that the syntax pass reads through has a derivation, and what derivations have.
pub mod Laws
pub mod ActionsIn
pub mod SectionsIn
pub mod ProgramIn
pub mod Labels
pub mod Spelt
pub mod Facts
