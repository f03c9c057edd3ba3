-- Document 01, modules 4 and 5: the order of the nodes and their first columns, on lists.
pub mod Against
pub mod Weights
pub mod Chains
pub mod Claims
pub mod Ordered
pub mod Cases
pub mod code
