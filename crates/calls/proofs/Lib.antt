-- The words of a rule do not depend on the numbers of the rules that it calls, but for the words of the calls.
pub mod Words
