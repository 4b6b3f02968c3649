-- Pairs of doubles to and from the other formats (IEEE 754-2019 5.4.2, convertFormat).
use Rattle.std.specs.Prelude.{◌≡◌, ℕ, ◌*◌, ◌^◌, ◌<◌, ◌≤◌, Bool, true, ⊤}
use Rattle.std.specs.Bool.{MatchBool}
use Rattle.apfloat_model.specs.declared.kinds.Round.{Round}
use Rattle.apfloat_model.specs.formats.{Format.Format, Format.largest, Datum.Datum, Datum.finite, Members.IsFiniteOf}
use Rattle.apfloat_model.specs.rounding.{Outcome.Yields, Rounding.ok_bits}
use Rattle.apfloat_model.specs.order.Classes.{is_finite, is_finite_non_zero, is_negative}
use Rattle.apfloat_model.specs.arithmetic.{Conversions.IsConversion, Exact.signed}
use Rattle.apfloat_arithmetic.specs.other_formats.FormatOf.{IsSumTo, total_to}
use Rattle.apfloat_pair_theory.specs.{PairAccuracy.IsExactPair, PairFormats.double, PairFormats.wide}
use Rattle.apfloat_pair_theory.specs.Pairs.{Pair, pair_number, IsSplitAnswer}

-- the conversion of a datum of f to g, whether or not it loses information
pub record IsConvertedAnyway (f g : Format) (mode : Round) (x value : Datum) (status : ℕ) : Type 0 where
  pub loses_info : Bool
  pub is_conversion : IsConversion f g mode x value status loses_info

-- The exact sum of the parts, rounded once in g. As in a join, a high part that is zero, infinite or a NaN is converted
-- alone, and the low part is ignored.
abbrev pub IsPairTo : Format → Round → Pair → Datum → ℕ → Type 0
IsPairTo g mode x value status =
    MatchBool (is_finite_non_zero x.high) (IsSumTo double double g mode x.high x.low value status)
    (IsConvertedAnyway double g mode x.high value status)

-- if both parts are finite and the high part is not zero: the number of the pair, rounded once
abbrev pub IsPairNumberTo : Format → Round → Pair → Datum → ℕ → Type 0
IsPairNumberTo g mode x value status =
    is_finite_non_zero x.high ≡ true → is_finite x.low ≡ true
    → Yields g mode (total_to g (is_negative x.high) (is_negative x.low) (pair_number x) double.scale) value status

-- a datum of f, rounded once in the wide format and split, with the flags of that rounding
abbrev pub IsPairFrom : Format → Round → Datum → Pair → ℕ → Type 0
IsPairFrom f mode x answer status = IsSplitAnswer (IsConvertedAnyway f wide mode x) answer status

-- if the wide format has the number too, within the largest double, the pair is normalized and is that number
abbrev pub IsExactPairFrom : Format → Datum → Pair → ℕ → Type 0
IsExactPairFrom f (finite b m) answer status =
    (n : ℕ) → n * 2 ^ f.scale ≡ m * 2 ^ wide.scale → 0 < n → n ≤ largest double → IsFiniteOf wide b n
    → IsExactPair (signed b n) 1 answer × (status ≡ ok_bits)
IsExactPairFrom f x answer status = ⊤
