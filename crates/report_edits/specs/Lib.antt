-- The definitions that the contracts of `report_edits` cite.
pub mod Stored
