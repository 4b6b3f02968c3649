pub mod StoredBack
pub mod StoredNumbers
pub mod StoredMembers
pub mod ShapeExponents
pub mod HalfQuanta
pub mod CutRests
pub mod OddCuts
pub mod QuantumCuts
pub mod FineCuts
mod CarriedPayloads
