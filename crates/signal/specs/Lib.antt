-- Document 02, L2: the signal order.
pub mod Signal
pub mod Outcome
pub mod Laws
pub mod Cases
pub mod code
