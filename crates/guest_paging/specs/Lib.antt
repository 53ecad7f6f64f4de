-- The definitions that the contracts of `guest_paging` cite.
pub mod Access
pub mod Rule
pub mod Entry
pub mod Walked
pub mod Answer
pub mod Walk
pub mod Reference
pub mod Laws
