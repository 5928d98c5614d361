pub mod Entries
pub mod Edges
pub mod Vertices
