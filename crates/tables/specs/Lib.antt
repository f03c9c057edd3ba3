-- Tables: arrays with a count.
pub mod Tables
