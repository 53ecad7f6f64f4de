pub mod Stays
pub mod EntryLaws
pub mod EventLaws
