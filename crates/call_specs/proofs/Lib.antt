pub mod Calls
pub mod SetupCalls
pub mod ReportCalls
