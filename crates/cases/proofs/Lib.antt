pub mod InputLaws
pub mod TurnLaws
pub mod ColumnLaws
