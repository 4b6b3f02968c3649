pub mod Amounts
pub mod BlockDots
pub mod Laws
pub mod Reductions
