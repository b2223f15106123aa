-- For the proofs of this crate and those that link it: `TrayEntries` says what a caller learns from the answer. `Trays` and
-- `TrayChips` have the theorems.
mod Rows
mod Images
mod Joined
pub mod Trays
pub mod TrayEntries
pub mod TrayChips
