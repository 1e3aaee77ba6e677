pub mod Plan
pub mod History
pub mod Cursor
pub mod Drains
