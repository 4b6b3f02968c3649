pub mod HexadecimalNumbers
pub mod Hexadecimals
pub mod FlagNames
pub mod Named
pub mod Counted
pub mod RepliesOnce
pub mod Runs
pub mod Edits
