pub mod States
pub mod Goes
pub mod Sizes
