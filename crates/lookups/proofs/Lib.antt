pub mod TableLaws
pub mod AdditionLaws
pub mod IndexLaws
pub mod SumLaws
pub mod PassSteps
pub mod Padding
pub mod LookUpLaws
pub mod PassLaws
