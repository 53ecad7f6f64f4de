pub mod StartLaws
pub mod PrintedLaws
