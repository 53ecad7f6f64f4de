-- The cases that document 01 works by hand, and the trap sheet of setup's frames.
pub mod Worked
pub mod TrapSheet
pub mod PageWalks
