pub mod OneReading
pub mod PairReadings
pub mod PairShortest
