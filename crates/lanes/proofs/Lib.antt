pub mod GridLaws
pub mod ColumnLaws
pub mod LaneLaws
pub mod PartLaws
