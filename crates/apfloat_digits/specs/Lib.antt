pub mod decimal
pub mod hexadecimal
pub mod of_double_doubles
