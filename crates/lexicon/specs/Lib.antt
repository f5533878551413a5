-- The definitions of the crate `lexicon`.
pub mod ByteOrder
pub mod Letters
pub mod Lexicon
pub mod NumberWords
pub mod WordFile
pub mod WordOrder
-- Lemmas that the laws of this crate's impls are proved by: no contract cites them, and nobody has to believe them.
pub mod ByteOrderLemmas
pub mod Lookup
pub mod NumberWordsLemmas
pub mod WordFileLines
pub mod WordFileWords
