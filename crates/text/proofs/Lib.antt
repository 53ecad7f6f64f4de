pub mod HexLaws
pub mod DecimalLaws
pub mod PutLaws
pub mod WritingLaws
