pub mod Marks
pub mod Taking
pub mod Went
pub mod Going
pub mod Judging
