pub mod Signed
pub mod Nearest
pub mod Roundings
pub mod TwoSums
pub mod Statuses
pub mod WholeProducts
pub mod FractionErrors
