-- The definitions that the contracts of `replay` cite.
pub mod Text
pub mod Digest
pub mod Lines
