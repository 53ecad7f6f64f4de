-- The definitions that the contracts of `trap_sheet` cite, and what its theorems say.
pub mod Runs
pub mod Sheet
pub mod Search
pub mod Left
pub mod Answer
pub mod Reference
