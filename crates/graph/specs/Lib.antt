-- The definitions of document 01, modules 2 and 3, on lists.
pub mod Items
pub mod Graph
pub mod Completion
pub mod Cutting
pub mod Joining
pub mod Graphed
pub mod Shape
pub mod Ends
pub mod Laws
pub mod Cases
pub mod JoinCases
pub mod Outcome
pub mod Completed
pub mod code
