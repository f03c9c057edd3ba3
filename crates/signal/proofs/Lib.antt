-- Laws of what specs/ defines, and of the code.
pub mod Lowest
pub mod SignalLaws
pub mod Codes
pub mod Graphs
pub mod Only
pub mod Empty
