pub mod BitmapLaws
pub mod PortLaws
pub mod PartLaws
pub mod MsrLaws
