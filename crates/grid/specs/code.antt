-- What the code's arrays hold and its steps answer: cited by private functions alone. No public contract reaches it, so a buyer need not believe it.
pub mod Arrays
pub mod Laid
pub mod Leads
pub mod LineLabels
pub mod Placed
pub mod Rendered
pub mod Row
pub mod Sited
pub mod Walk
