pub mod Lists
pub mod Bits
pub mod Signal
pub mod Excitation
pub mod TruthTable
pub mod Passes
pub mod Run
pub mod Demand
