pub mod DenormalPairs
pub mod PairOrderLaws
