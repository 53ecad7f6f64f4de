-- The definitions that the contracts of `record` cite, and what its theorems say.
pub mod Record
pub mod Runs
pub mod Codec
pub mod Sizes
pub mod Fitting
pub mod Acceptable
pub mod Faithful
