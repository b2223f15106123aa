pub mod Cards
pub mod Refusals
pub mod Answers
pub mod Doors
pub mod Sums
pub mod Inside
