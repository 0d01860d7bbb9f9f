-- What the pairs of a part rest on.
pub mod Same
pub mod First
pub mod Open
pub mod Few
pub mod Taking
pub mod Walking
