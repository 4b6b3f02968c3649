pub mod Layout
pub mod Interchange
