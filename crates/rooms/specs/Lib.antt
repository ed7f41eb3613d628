pub mod Entries
pub mod Rule
pub mod Exact
pub mod First
pub mod Sets
pub mod Best
pub mod Places
