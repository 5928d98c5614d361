pub mod Nets
pub mod Table
