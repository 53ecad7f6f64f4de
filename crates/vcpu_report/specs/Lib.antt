-- The definitions that the contracts and laws of `vcpu_report` cite.
pub mod ExitReport
pub mod Invariant
pub mod Laws
pub mod Handlers
