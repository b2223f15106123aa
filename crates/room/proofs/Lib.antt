pub mod Counted
pub mod Rooms
pub mod Keeps
