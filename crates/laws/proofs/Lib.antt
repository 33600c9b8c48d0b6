-- What follows from the definitions of rules, of every step, run, record and restart file, and how functions that follow a tree are put
-- together.
pub mod Tests
pub mod Lists
pub mod Cycles
pub mod Entries
pub mod Lengths
pub mod Purposes
pub mod Records
pub mod Steps
pub mod Runs
pub mod Restarts
pub mod Images
pub mod Texts
pub mod Counts
pub mod Goes
