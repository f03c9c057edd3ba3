-- What the crates share: counting loops, lists.
pub mod Bytes
pub mod Each
pub mod Lists
