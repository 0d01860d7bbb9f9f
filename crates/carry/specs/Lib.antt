pub mod Carry
pub mod Texts
pub mod Identity
pub mod FromCalls
pub mod Places
pub mod GoingOn
pub mod Scan
