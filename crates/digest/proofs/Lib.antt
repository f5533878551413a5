-- The lemmas of the crate `digest`.
pub mod Replies
pub mod Xors
pub mod Chains
pub mod BitLaws
pub mod Windows
pub mod Keys
pub mod WordChains
pub mod Made
