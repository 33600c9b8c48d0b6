pub mod Counting
pub mod Ends
pub mod Feeding
pub mod Blocks
