pub mod TernaryTables
pub mod Additions
pub mod LookUps
pub mod Passing
