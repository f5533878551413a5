-- The definitions of the crate `cipher`.
pub mod Answers
pub mod Wiped
pub mod Passphrase
pub mod Round
pub mod Drill
pub mod Feistel
pub mod Stretching
pub mod Exports
-- Lemmas that the laws of this crate's impls are proved by: no contract cites them, and nobody has to believe them.
pub mod Blocks
pub mod ByteLists
pub mod DrillBytes
