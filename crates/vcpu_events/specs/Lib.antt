-- The definitions that the contracts of `vcpu_events` cite.
pub mod Queue
pub mod Entry
pub mod Access
