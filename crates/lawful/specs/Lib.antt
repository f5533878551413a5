-- The definitions of the crate `lawful`.
pub mod LawfulDeal
pub mod Rows
pub mod DealLaws
pub mod Opening
