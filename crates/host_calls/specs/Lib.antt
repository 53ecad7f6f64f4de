-- The definitions that the contracts of `host_calls` cite.
pub mod Answers
