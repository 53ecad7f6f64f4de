-- The definitions that the contracts of `structs` cite.
pub mod Bitmap
pub mod Frames
pub mod Numbers
pub mod PortPart
pub mod EPTPointer
