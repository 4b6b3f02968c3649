pub mod decimal_lemmas
pub mod hexadecimal_lemmas
pub mod of_double_doubles_lemmas
