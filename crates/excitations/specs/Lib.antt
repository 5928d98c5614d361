pub mod Fit
pub mod Conditions
pub mod Connections
pub mod Sweeps
pub mod Excitations
