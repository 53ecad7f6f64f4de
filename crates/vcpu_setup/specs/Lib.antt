-- The definitions that the contracts of `vcpu_setup` cite.
pub mod Capability
pub mod Words
pub mod Writes
pub mod Setup
pub mod Laws
pub mod Used
pub mod Added
pub mod Bitmaps
