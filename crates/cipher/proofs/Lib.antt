-- The lemmas of the crate `cipher`.
pub mod Inverse
pub mod Applied
pub mod Turned
pub mod Chained
pub mod Filled
pub mod Zeros
