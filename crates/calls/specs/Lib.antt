-- What is claimed of every list of calls on a session.
pub mod Moves
pub mod Reference
pub mod Calls
pub mod DemandThree
pub mod CallContracts
pub mod CapabilityWords
