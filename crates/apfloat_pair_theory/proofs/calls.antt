pub mod PairsOnce
pub mod CallsOnce
pub mod PairFlagsTogether
pub mod CallsExist
pub mod PairsDetermined
pub mod SignedPairs
