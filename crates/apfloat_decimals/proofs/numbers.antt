pub mod Bounded
pub mod DecimalPowers
pub mod FreeRatios
pub mod LeadingNumbers
pub mod QuantumPlaces
pub mod Values
pub mod WordProducts
