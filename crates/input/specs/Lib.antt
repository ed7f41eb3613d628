pub mod Input
pub mod Told
