pub mod Answers
pub mod Command
pub mod Faults
