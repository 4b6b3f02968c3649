pub mod BlockFormats
pub mod Blocks
pub mod Statuses
pub mod StreamWidths
pub mod RandomWidths
pub mod RandomNumbers
