-- The laws behind the proofs of `record_edits`.
pub mod Parts
pub mod Moves
pub mod Fits
pub mod Kept
pub mod Edits
