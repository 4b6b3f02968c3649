pub mod PairConversions
pub mod PairFusedSums
