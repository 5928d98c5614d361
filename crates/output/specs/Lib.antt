pub mod Limits
pub mod Text
pub mod Output
pub mod Calls
pub mod Program
pub mod Printed
pub mod ForC
