pub mod Tests
pub mod BitLaws
pub mod WordLaws
pub mod WithBit
pub mod AllBelow
pub mod Each
pub mod LittleEndianLaws
pub mod Tells
