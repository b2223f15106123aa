pub mod Tabulate
pub mod Codes
pub mod Readings
pub mod Entries
pub mod Mended
pub mod Gray
pub mod Nibbles
