-- The definitions that the contracts of `regs` cite.
pub mod Registers
pub mod Accessors
