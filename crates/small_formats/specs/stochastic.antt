pub mod Directions
pub mod ModeConversions
pub mod Laws
pub mod ElementConversions
