-- The definitions that the contracts of `text` cite, and what its theorems say.
pub mod Ascii
pub mod Hex
pub mod Decimal
pub mod Put
pub mod Writing
