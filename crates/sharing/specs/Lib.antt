-- The definitions of the crate `sharing`.
pub mod Curves
pub mod Values
-- Lemmas that the ghost fields of this crate's values are proved by: no contract cites them, and nobody has to believe them.
pub mod Props
