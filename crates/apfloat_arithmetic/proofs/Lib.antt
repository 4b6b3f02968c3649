pub mod Comparisons
mod WholeQuotients
mod NearestMultiples
pub mod ProductExponents
pub mod RootExponents
pub mod RootCases
pub mod ZeroAnswers
mod NumberClasses
mod PowerFactors
mod ExactInverses
mod WideTerms
pub mod WideProducts
mod FusedCases
mod SpecialRemainders
mod SpecialProducts
pub mod Additions
mod DeliveredTotals
mod Ranges
mod SumCases
mod StepBounds
pub mod WordQuotients
pub mod RootStandings
pub mod other_formats_lemmas
