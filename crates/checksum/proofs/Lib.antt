-- The lemmas of this crate.
pub mod CheckWords
pub mod ChecksumDetects
pub mod ChecksumPolynomial
pub mod ChecksumRemainder
pub mod ChecksumRoots
pub mod ChecksumTest
pub mod ChecksumWords
