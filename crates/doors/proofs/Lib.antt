mod Standings
mod Fitting
pub mod Opened
