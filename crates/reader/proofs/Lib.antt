-- The lemmas of this crate.
pub mod BitAlgebra
pub mod BitFields
pub mod CardRoundTrip
pub mod CheckedFields
pub mod IndicesOfPieces
pub mod KeptWords
pub mod LawfulCards
pub mod Pieces
pub mod CardPromises
pub mod SpelledLines
pub mod TextBounds
pub mod TextOfWords
pub mod WordRoundTrip
