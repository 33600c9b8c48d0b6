pub mod Wiring
pub mod Cells
