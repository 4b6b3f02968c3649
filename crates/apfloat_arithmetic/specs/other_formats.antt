pub mod Extended
pub mod Operands
pub mod FormatOf
pub mod RootsOf
pub mod Theorems
pub mod RaisedFlags
