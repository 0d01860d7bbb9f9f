-- Buffers as rows of words, chains in them, the words of each construct, the rules, the link from the encoding; and facts by computing.
pub mod Laws
pub mod Leave
pub mod Bytes
pub mod Labels
pub mod Rows
pub mod Patches
pub mod Tables
pub mod Emits
pub mod Waits
pub mod Choices
pub mod Link
pub mod Rules
pub mod Facts
