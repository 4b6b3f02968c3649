pub mod numbers
pub mod pairs
pub mod sums
pub mod products
pub mod parts
pub mod calls
pub mod RefusedAnswers
