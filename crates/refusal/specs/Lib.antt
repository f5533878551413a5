-- The definitions of the crate `refusal`.
pub mod Layers
pub mod Fields
pub mod Refusals
pub mod Sentences
