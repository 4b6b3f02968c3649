pub mod LawTest
pub mod OtherFlags
pub mod Greatest
pub mod Ranges
pub mod NanMembers
pub mod LawfulRanges
