-- The lemmas of this crate.
pub mod FieldRing
pub mod Gf256Tables
pub mod Horner
pub mod PolynomialDivision
pub mod InterpolationSteps
pub mod Lagrange
pub mod PolynomialRoots
pub mod PolynomialUnique
pub mod SparsePolynomial
