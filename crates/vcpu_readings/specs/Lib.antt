-- The definitions that the contracts of `vcpu_readings` cite.
pub mod Readings
