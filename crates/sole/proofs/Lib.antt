pub mod NoSecond
