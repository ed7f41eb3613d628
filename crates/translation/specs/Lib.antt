pub mod Rows
pub mod Trees
pub mod Translation
