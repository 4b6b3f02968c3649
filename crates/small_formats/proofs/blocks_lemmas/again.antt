pub mod Binades
pub mod Fifteens
pub mod Lists
pub mod Lowered
pub mod Elements
pub mod Blocks
