pub mod TiesToZero
pub mod Augmented
pub mod Numbers
pub mod Payloads
