pub mod Sink
pub mod Causes
pub mod Entries
