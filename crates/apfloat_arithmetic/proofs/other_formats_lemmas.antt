pub mod Exponents
pub mod OddTotals
pub mod Cases
pub mod ScaledTotals
mod SoundOutcomes
pub mod Once
pub mod RootExponents
pub mod RaisedFlags
