pub mod SameNet
pub mod Sorting
pub mod Agreed
pub mod Write
pub mod Carrying
pub mod Fronts
