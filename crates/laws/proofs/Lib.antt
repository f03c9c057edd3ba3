-- Laws of what specs/ defines.
pub mod Each
pub mod Lists
pub mod Tests
