-- Cases that were computed, what is listed line by line, and that it assembles to the same bytes.
pub mod Cases
pub mod Listings
pub mod Plain
pub mod Spelt
pub mod RoundTrip
pub mod Most
