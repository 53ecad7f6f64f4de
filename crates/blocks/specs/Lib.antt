-- The definitions that the contracts of `blocks` cite.
pub mod SetupBlock
pub mod SetupLayout
pub mod ReportBlock
pub mod ReportLayout
