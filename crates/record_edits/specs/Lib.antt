-- The definitions that the contracts of `record_edits` cite.
pub mod Holds
pub mod Edited
