pub mod Targets
pub mod At
pub mod Scaled
pub mod Sides
pub mod Lanes
pub mod FewCounts
