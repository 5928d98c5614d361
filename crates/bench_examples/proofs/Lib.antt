pub mod Opened
pub mod Table
