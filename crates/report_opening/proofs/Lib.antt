pub mod OpeningSteps
