pub mod Joined
pub mod Spaced
pub mod Short
pub mod Fits
