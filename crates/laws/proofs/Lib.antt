mod Faults
mod Rulings
mod Prints
