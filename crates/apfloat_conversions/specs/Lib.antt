pub mod Wholes
pub mod Held
pub mod Results
pub mod Scalings
pub mod hex_texts
pub mod DecimalTails
