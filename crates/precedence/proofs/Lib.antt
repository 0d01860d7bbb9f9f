-- Operators under precedence mean what the nested rules say.
pub mod Nested
pub mod Levels
pub mod Places
pub mod Facts
