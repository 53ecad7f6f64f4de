-- The definitions that the contracts of the trials cite, and what the trials tell of their calls.
pub mod Trial
pub mod Trials
pub mod Reference
