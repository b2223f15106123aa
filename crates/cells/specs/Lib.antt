pub mod Chip
pub mod Run
pub mod Log
pub mod Put
pub mod Row
pub mod Cut
