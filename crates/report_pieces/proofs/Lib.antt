pub mod JobSteps
