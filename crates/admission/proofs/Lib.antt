pub mod Admitted
pub mod Chunks
pub mod Forms
pub mod Judged
pub mod Records
pub mod Rooms
pub mod Sizes
