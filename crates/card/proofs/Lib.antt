-- For the proofs of this crate and those that link it: `ShowLaws` and `DoorLaws` say what a text shows and what the doors answer of it,
-- and `Refused` what a function answered by its numbers.
-- `RoundTrip`, `Sums` and `Worked` have the theorems.
mod RunLaws
mod WriteLaws
mod ReadLaws
mod RowLaws
mod AnswerLaws
pub mod ShowLaws
pub mod DoorLaws
pub mod RoundTrip
pub mod Sums
pub mod Worked
pub mod Refused
