-- The definitions of this crate.
pub mod Bits
pub mod Card
pub mod Line
pub mod Promises
pub mod Reading
pub mod Spelling
pub mod Words
pub mod Writing
