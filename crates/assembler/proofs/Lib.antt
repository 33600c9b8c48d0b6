pub mod Laws
pub mod Passed
pub mod Within
