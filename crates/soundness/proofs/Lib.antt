pub mod OneLaws
pub mod VerdictSteps
pub mod ExcitedSteps
pub mod Examples
pub mod ExcitedLaws
pub mod VerdictLaws
pub mod KeyNodesLaws
