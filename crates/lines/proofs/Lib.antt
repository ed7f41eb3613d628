mod Places
mod Rows
mod Tails
pub mod Lawfuls
