pub mod Coming
pub mod Starts
pub mod Slots
pub mod Buffer
pub mod Standing
pub mod Ahead
pub mod Settled
pub mod Shares
