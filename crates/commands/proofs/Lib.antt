-- The lemmas of this crate.
mod CardArguments
mod CardTexts
mod DecimalNumbers
mod HexValues
mod SpaceSeparated
