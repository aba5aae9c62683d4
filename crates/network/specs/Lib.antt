pub mod Calls
pub mod FanOuts
pub mod Faults
pub mod Figures
pub mod Netlists
pub mod Settling
pub mod Sorting
