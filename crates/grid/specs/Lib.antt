-- Document 01, modules 6, 7 and 8, on lists; the records that are handed out; what is claimed of them.
pub mod Lists
pub mod Heights
pub mod Columns
pub mod RenderNode
pub mod RenderGrid
pub mod Record
pub mod Curves
pub mod Sheeted
pub mod Cells
pub mod Labels
pub mod Labelled
pub mod BoxTheorem
pub mod LaidOut
pub mod Cases
pub mod code
