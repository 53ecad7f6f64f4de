pub mod SetupLaws
pub mod DemandLaws
pub mod SegmentLaws
pub mod WordsLaws
pub mod UsedLaws
pub mod AddedLaws
