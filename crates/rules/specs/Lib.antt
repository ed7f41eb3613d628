pub mod Names
pub mod Rules
pub mod Faults
pub mod Automaton
pub mod Reader
pub mod Laid
