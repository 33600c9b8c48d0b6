pub mod Admits
pub mod Pages
