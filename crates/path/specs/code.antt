-- What the code's arrays hold and its steps answer: cited by private functions alone. No public contract reaches it, so a buyer need not believe it.
pub mod Pass
pub mod StandIns
pub mod Strokes
pub mod Writers
