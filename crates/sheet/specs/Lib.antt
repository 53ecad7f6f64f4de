-- The definitions that the contracts of `sheet` cite, and what its theorems say.
pub mod Line
pub mod Form
pub mod Sheet
pub mod Left
pub mod Example
