pub mod Types
pub mod FlaggedTypes
pub mod FormatMeaning
pub mod AnyFloats
