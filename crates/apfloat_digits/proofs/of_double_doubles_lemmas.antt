pub mod OneReading
pub mod PairShortest
pub mod SplitsJoined
pub mod ReadPairs
