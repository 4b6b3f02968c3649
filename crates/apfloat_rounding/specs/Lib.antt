pub mod Shapes
pub mod Encoded
pub mod Stored
pub mod Cuts
