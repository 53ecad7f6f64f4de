pub mod Scan
pub mod TableTest
pub mod Lookup
pub mod FieldLaws
pub mod WidthLaws
pub mod WriteLaws
pub mod ControlLaws
pub mod CrLaws
