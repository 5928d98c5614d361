pub mod Grid
pub mod Lanes
