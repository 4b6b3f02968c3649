pub mod Digits
pub mod Specials
pub mod Texts
pub mod Faults
pub mod Literals
pub mod Readings
pub mod Parsing
