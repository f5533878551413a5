-- The definitions of the program `digests`.
pub mod Data
pub mod Replies
