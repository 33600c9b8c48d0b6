pub mod Begun
pub mod Laid
pub mod Rest
pub mod Found
pub mod Executed
pub mod Conditions
