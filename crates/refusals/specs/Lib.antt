-- The refusals of documents 01 and 02.
pub mod Refusals
