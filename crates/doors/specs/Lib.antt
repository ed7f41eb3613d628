pub mod Told
pub mod Memory
