pub mod Excited
pub mod Verdict
pub mod KeyNodes
