pub mod Firsts
pub mod Plays
