-- What is claimed of lists of edits of the intercept frames.
pub mod Edits
pub mod TwoHands
