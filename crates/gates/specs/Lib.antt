-- Gate sheets: what a reader of the contracts must believe; Building serves the code alone.
pub mod Limits
pub mod Gates
pub mod GateRows
pub mod Building
