-- For the proofs of this crate and of the crates that link it: `Writing` has the laws of writing into a lent text, `Decimals` those of plain
-- decimals and lines, `Finding` and `ReadDecimals` those of reading, and `Forms` those of forms one behind another.
pub mod Writing
pub mod Decimals
mod Finding
mod ReadDecimals
pub mod Forms
mod Signs
