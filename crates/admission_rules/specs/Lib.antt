-- "Admission" and demand 3 as definitions: what must be believed of them, over the definitions of rules.
pub mod Admission
pub mod Safety
