pub mod Asked
pub mod Operands
pub mod Reading
