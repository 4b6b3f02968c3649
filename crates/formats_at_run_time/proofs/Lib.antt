pub mod OfTwoOnce
pub mod FormatLaws
