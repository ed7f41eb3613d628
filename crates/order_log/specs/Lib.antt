pub mod Faults
pub mod Print
pub mod Rulings
pub mod Answers
