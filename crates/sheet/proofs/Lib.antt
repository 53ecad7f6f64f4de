pub mod LineLaws
pub mod SheetLaws
pub mod FormLaws
pub mod Example
