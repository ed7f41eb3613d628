pub mod Records
pub mod Says
pub mod Closing
pub mod Faults
pub mod Law
pub mod Carried
pub mod Whole
pub mod Memory
