-- The definitions that the contracts cite.
pub mod Laws
pub mod Polynomial
pub mod Interpolation
pub mod CarryLess
pub mod Gf256
pub mod Gf1024
-- Lemmas that the laws of this crate's impls are proved by: no contract cites them, and nobody has to believe them.
pub mod CarryLessField
pub mod CarryLessRing
pub mod Gf1024Laws
pub mod Gf256Laws
