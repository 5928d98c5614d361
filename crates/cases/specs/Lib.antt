pub mod Input
pub mod Turns
pub mod Columns
