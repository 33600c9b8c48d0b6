pub mod Lists
pub mod Decodes
