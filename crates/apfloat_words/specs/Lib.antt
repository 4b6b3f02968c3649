pub mod RootStanding
pub mod Totals
pub mod Wides
