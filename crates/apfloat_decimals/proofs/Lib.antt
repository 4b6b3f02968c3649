pub mod numbers
pub mod cuts
pub mod digits
pub mod shortest_decimals
pub mod spelled
