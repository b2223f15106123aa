pub mod Room
pub mod Kept
pub mod Calls
