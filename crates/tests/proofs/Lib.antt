pub mod Spacings
pub mod Multiples
pub mod PlainAnswers
pub mod Summands
pub mod Readings
pub mod Nearby
pub mod TwoModes
pub mod DecimalRoundTrips
