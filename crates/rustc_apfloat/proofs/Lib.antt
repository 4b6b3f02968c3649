pub mod LawTest
pub mod double_doubles_lemmas
pub mod double_double_operations_lemmas
