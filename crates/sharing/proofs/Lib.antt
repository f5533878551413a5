-- The lemmas of the crate `sharing`.
pub mod PositionPolynomials
pub mod Places
pub mod FlatShares
pub mod EachByte
pub mod LentShares
pub mod ByteValues
pub mod OtherShares
pub mod CurveTheorems
pub mod CurveAnswers
pub mod DigestLaws
pub mod Chosen
