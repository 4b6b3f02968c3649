pub mod Points
pub mod StoredPicks
mod StoredNumbers
mod ScalePicks
pub mod IndexPicks
pub mod ScaleModes
pub mod OneAnswer
pub mod CodesCompared
mod Converted
pub mod UnsignedSigns
pub mod RandomCounts
mod MovesScaled
mod RestLosses
mod ModePicks
pub mod ModesOnce
pub mod NarrowCodes
pub mod CodePicks
mod PointPicks
mod QuotientPicks
mod QuotientsOnce
pub mod stochastic_lemmas
pub mod packing_lemmas
pub mod blocks_lemmas
pub mod saturation_lemmas
mod WideResults
