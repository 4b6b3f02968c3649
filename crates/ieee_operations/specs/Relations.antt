-- Sets of the four relations between data (IEEE 754-2019 5.11).
use Rattle.std.specs.Prelude.{Bool, Option, Some, None}
use Rattle.std.specs.declared.cmp.Ordering.{Ordering, TheVariants.Less, TheVariants.Equal, TheVariants.Greater}
use Rattle.ieee_operations.specs.declared.predicates.Relations.{Relations}

-- whether the set has the relation; `None` is unordered
abbrev pub has : Relations → Option Ordering → Bool
has relations (Some Less) = relations.less
has relations (Some Equal) = relations.equal
has relations (Some Greater) = relations.greater
has relations None = relations.unordered
