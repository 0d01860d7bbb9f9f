-- What acceptance implies, from the text to the table.
pub mod ReadLaws
pub mod Shape
pub mod Parsed
pub mod CheckLaws
pub mod NamesOk
pub mod Listed
pub mod Resolved
pub mod Used
pub mod Accepts
pub mod Distinct
pub mod WordsOf
pub mod ReadShown
pub mod Refusals
pub mod Numbers
