-- Facts by computation: what is refused and where, and the trees of what is not; and the law of the kinds of operations.
pub mod Marks
pub mod Facts
pub mod Trees
pub mod Ahead
pub mod Operators
pub mod TextFacts
