pub mod Decimals
pub mod About
pub mod OneAnswer
pub mod Readings
pub mod Facts
pub mod Digits
pub mod Pairs
