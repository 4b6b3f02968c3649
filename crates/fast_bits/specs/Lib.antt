pub mod Encoded
pub mod Numbers
pub mod Order
pub mod Integers
pub mod Once
pub mod Addends
pub mod Words
pub mod lanes
