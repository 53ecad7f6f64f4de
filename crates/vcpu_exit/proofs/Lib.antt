pub mod Conds
pub mod Passes
