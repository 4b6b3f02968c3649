pub mod Odd
pub mod Wholes
pub mod Again
pub mod Rooms
pub mod Roots
