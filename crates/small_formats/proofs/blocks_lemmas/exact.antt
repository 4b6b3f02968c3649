pub mod Blocks
pub mod Rooms
pub mod Singles
