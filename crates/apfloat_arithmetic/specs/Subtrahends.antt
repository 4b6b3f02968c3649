-- What is added when a value is subtracted.
use Rattle.std.specs.Prelude.{not}
use Rattle.apfloat_model.specs.declared.kinds.NonfiniteBehavior.{NonfiniteBehavior}
use Rattle.apfloat_model.specs.formats.Datum.{Datum, finite, infinite, nan}
use Rattle.apfloat_model.specs.rounding.Negation.{negated}

-- a NaN is not negated
abbrev pub added : NonfiniteBehavior → Datum → Datum
added kind (finite b n) = negated kind (finite b n)
added kind (infinite b) = infinite (not b)
added kind (nan b s) = nan b s
