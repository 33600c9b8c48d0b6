pub mod Reads
