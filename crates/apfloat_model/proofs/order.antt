pub mod OrderLaws
pub mod PredicatesAgree
pub mod Categories
pub mod PositiveValues
