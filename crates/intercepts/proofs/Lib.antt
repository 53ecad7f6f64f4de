pub mod EditLaws
pub mod Lists
pub mod Bits
pub mod SetUp
pub mod TwoHands
