-- The relations that satisfy each comparison predicate (IEEE 754-2019 5.11, tables 5.1 to 5.3).
use Rattle.std.specs.Prelude.{Bool, true, false}
use Rattle.ieee_operations.specs.declared.predicates.Predicate.{Predicate, TheVariants.Equal}
use Rattle.ieee_operations.specs.declared.predicates.Predicate.TheVariants.{NotEqual, Unordered, Ordered, Greater}
use Rattle.ieee_operations.specs.declared.predicates.Predicate.TheVariants.{GreaterEqual, NotGreater, Less, LessEqual}
use Rattle.ieee_operations.specs.declared.predicates.Predicate.TheVariants.{NotLess, LessUnordered, GreaterUnordered}
use Rattle.ieee_operations.specs.declared.predicates.Relations.{Relations}

-- less, equal, greater, unordered
abbrev pub set : Bool → Bool → Bool → Bool → Relations
set less equal greater unordered = record { less = less; equal = equal; greater = greater; unordered = unordered }

abbrev pub relations_of : Predicate → Relations
relations_of Equal = set false true false false
relations_of NotEqual = set true false true true
relations_of Greater = set false false true false
relations_of GreaterEqual = set false true true false
relations_of Less = set true false false false
relations_of LessEqual = set true true false false
relations_of NotGreater = set true true false true
relations_of LessUnordered = set true false false true
relations_of NotLess = set false true true true
relations_of GreaterUnordered = set false false true true
relations_of Unordered = set false false false true
relations_of Ordered = set true true true false
