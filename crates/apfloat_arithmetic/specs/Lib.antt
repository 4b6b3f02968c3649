pub mod Subtrahends
pub mod Sides
pub mod ExactInverseParts
pub mod Magnitudes
pub mod NumberResults
pub mod SpecialOperands
pub mod other_formats
