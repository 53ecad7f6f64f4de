-- The vocabulary of words and bytes that every other crate's definitions use.
pub mod Words
pub mod LittleEndian
pub mod Refuses
