-- What a listing says.
pub mod Listings
pub mod Cases
