pub mod Automaton
pub mod Walking
