-- The bits that definitions name, as in the Rust and the manual: each name is the place of its bit. Assumes nothing.
pub mod Cr0Flags
pub mod Cr4Flags
pub mod EferFlags
pub mod XCr0Flags
pub mod RFlags
pub mod VmxBasic
pub mod PinbasedControls
pub mod PrimaryControls
pub mod SecondaryControls
pub mod ExitControls
pub mod EntryControls
