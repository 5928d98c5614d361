pub mod JoinLaws
pub mod GrowLaws
pub mod RowLaws
