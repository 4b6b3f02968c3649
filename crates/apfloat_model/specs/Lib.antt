pub mod formats
pub mod rounding
pub mod arithmetic
pub mod order
pub mod whole_numbers
pub mod bits
pub mod texts
pub mod Determined
