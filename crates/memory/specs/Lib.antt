-- Lemmas that the laws of this crate's impls are proved by: no contract cites them, and nobody has to believe them.
pub mod Padded
