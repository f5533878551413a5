-- The definitions of the crate `digest`.
pub mod Keyed
pub mod Drill
pub mod Sha256
pub mod Hmac
pub mod Parts
-- Lemmas that the laws of this crate's impls are proved by: no contract cites them, and nobody has to believe them.
pub mod Lanes
pub mod Padding
