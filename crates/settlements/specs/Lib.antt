pub mod Settle
pub mod Batch
pub mod Numbers
pub mod Ready
pub mod Passed
