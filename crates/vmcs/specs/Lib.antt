-- The definitions that the contracts of `vmcs` cite.
pub mod Field
pub mod Names
pub mod Named
pub mod Fields
pub mod Lookup
pub mod Rules
pub mod Writes
pub mod Flags
pub mod Control
pub mod Cr
pub mod Efer
pub mod ExitInfo
