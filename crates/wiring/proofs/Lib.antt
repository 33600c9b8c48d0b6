pub mod Plain
pub mod Cells
mod Banks
