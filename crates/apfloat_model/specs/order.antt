pub mod Classes
pub mod Order
pub mod Predicates
pub mod Positive
