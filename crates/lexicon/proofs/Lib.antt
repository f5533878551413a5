-- The lemmas of this crate.
pub mod ByteComparisons
pub mod WordFileLookup
pub mod WordFileReading
