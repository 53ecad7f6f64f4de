pub mod Words
pub mod Steps
pub mod Known
pub mod Kept
pub mod ReportLaws
