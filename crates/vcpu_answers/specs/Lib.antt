-- The definitions that the contracts of `vcpu_answers` cite.
pub mod Answer
pub mod Cpuid
