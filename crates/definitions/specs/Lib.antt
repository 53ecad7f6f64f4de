-- The definitions that the contracts of `definitions` cite.
pub mod VmxExitReason
pub mod ExitReasons
pub mod Irq
pub mod Interruption
pub mod Refusals
