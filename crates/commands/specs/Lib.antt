-- The definitions of this crate.
pub mod Commands
pub mod Answers
pub mod Arguments
pub mod Session
pub mod Settings
pub mod Lines
