-- The definitions of the crate `checksum`.
pub mod Checksum
pub mod Values
