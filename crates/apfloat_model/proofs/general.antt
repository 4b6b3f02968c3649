pub mod Choices
pub mod ListLaws
pub mod Logarithms
pub mod Scaled
pub mod Powers
pub mod MoreDigits
