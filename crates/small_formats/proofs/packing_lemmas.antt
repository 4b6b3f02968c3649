pub mod Digits
pub mod All
pub mod Groups
pub mod Once
