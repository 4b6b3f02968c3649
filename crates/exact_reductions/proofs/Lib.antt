pub mod BlockDots
pub mod Laws
pub mod Placed
pub mod Rooms
pub mod Sizes
pub mod Spelled
pub mod Tallies
