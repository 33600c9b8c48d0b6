-- Documents 01 and 02 as definitions: what must be believed. Each quotes the sentences that it states; they stand in the order in which
-- they build on each other, beside document 01's sections.
pub mod Basics
pub mod Cycles
-- "Opcodes": the flags and the decimal mode, the table, the accesses, what each operation does
pub mod Flags
pub mod Arithmetic
pub mod Opcodes
pub mod Table
pub mod Addressing
pub mod Operations
-- "One step": IRQ, NMI, RES
pub mod Interrupts
-- "Memory and parts"
pub mod Bus
-- "The state record"
pub mod Record
-- "Numbers given back"
pub mod Answers
-- "One step"
pub mod Step
pub mod Run
-- "The state record": the restart file
pub mod Restart
pub mod Text
-- document 02, "Cycles by page"
pub mod Pages
