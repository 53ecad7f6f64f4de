pub mod PrintedLaws
pub mod FileLaws
