pub mod Accesses
pub mod Asking
pub mod DiskStore
pub mod Given
pub mod Listed
pub mod MemStore
pub mod Store
