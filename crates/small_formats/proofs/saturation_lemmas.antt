pub mod FiniteValues
