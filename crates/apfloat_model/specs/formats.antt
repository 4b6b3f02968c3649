pub mod Format
pub mod Datum
pub mod Members
pub mod Constants
pub mod Nan
pub mod Lawful
pub mod Formats
pub mod Log
