pub mod Faults
pub mod Outcome
pub mod Counting
pub mod Standing
pub mod State
