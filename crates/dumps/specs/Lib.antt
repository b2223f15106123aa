pub mod Tray
pub mod Images
