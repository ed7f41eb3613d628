pub mod Asked
pub mod Fits
pub mod Told
