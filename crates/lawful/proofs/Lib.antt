-- The lemmas of the crate `lawful`.
pub mod Lists
pub mod RowShares
pub mod DealtRows
pub mod NoDeal
pub mod OneSecret
pub mod OneShown
pub mod SecretBytes
pub mod SomeDeal
pub mod DealtCards
pub mod DealTheorems
