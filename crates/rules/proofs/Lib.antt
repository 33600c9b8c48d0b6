-- The examples that were computed, and that the table has the opcodes of the rows.
pub mod Table
pub mod Opened
pub mod Examples
pub mod Cases
pub mod Pages
