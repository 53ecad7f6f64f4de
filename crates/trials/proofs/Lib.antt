-- The laws of trials, and those behind the proofs of `trials`.
pub mod TrialLaws
pub mod Numbers
pub mod RecordTrials
pub mod FrameTrials
pub mod SixTrials
