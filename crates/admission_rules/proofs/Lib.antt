-- What an accepted map says, that an accepted image is safe, and the maps that were computed.
pub mod Admissions
pub mod Stacks
pub mod Marks
pub mod Ends
pub mod Calm
pub mod Places
pub mod Plain
pub mod Shapes
pub mod Performs
pub mod Events
pub mod Safe
pub mod Cases
