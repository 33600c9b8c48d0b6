pub mod Passes
pub mod Cuts
