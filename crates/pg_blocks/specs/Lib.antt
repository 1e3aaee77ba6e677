pub mod Lines
pub mod Blocks
pub mod Cutter
pub mod Lending
pub mod Long
