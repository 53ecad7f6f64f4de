-- The definitions that the contracts of `vcpu_session` cite.
pub mod Phase
pub mod Session
