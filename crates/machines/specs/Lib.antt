pub mod Automaton
pub mod Choice
pub mod Comparisons
pub mod Deadline
pub mod Refusals
pub mod Steps
pub mod Laws
