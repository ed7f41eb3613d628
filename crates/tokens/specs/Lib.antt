pub mod Tokens
pub mod Reader
