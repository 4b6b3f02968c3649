-- The square root of a pair of doubles: that of the joined pair in the wide format, split; the status is that of the
-- wide root.
use Rattle.std.specs.Prelude.{ℕ}
use Rattle.apfloat_model.specs.{declared.kinds.Round.Round, arithmetic.Roots.IsRoot}
use Rattle.apfloat_pair_theory.specs.{PairFormats.wide, Pairs.Pair, Pairs.IsWideAnswer}

abbrev pub IsPairRoot : Round → Pair → Pair → ℕ → Type 0
IsPairRoot mode x answer status = IsWideAnswer (IsRoot wide mode) x answer status
