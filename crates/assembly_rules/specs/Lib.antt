-- Document 02, "An assembler and a lister", as definitions: what must be believed of them, over the definitions of rules.
pub mod Characters
pub mod Sums
pub mod Operands
pub mod Mnemonics
pub mod Lines
pub mod Assembly
pub mod Listing
