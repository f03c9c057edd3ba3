-- What is promised to firmware in C.
pub mod Results
