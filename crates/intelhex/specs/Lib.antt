pub mod Signs
pub mod Records
pub mod Lines
pub mod Faults
pub mod Doors
pub mod Covered
pub mod Laid
pub mod Inside
