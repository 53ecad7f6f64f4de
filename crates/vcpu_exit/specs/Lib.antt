-- The definitions that the contracts of `vcpu_exit` cite.
pub mod Reading
pub mod Refusal
pub mod Xcr0
