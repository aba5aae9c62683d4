pub mod FullModel
pub mod MadeArrays
pub mod ReachingPoints
pub mod TestedPoints
