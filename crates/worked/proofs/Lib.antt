pub mod WorkedCases
pub mod TrapSheet
pub mod PageWalks
