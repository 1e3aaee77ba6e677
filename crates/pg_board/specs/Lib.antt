pub mod Counts
pub mod Draws
pub mod Board
pub mod BoardRule
pub mod Merge
pub mod Tray
pub mod TrayRule
