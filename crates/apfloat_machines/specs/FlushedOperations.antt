-- The operations of a machine that flushes tiny results to zero: where an operation rounds once, its exact result is
-- rounded once or is flushed. What is given outright is never tiny, and is as it is without flushing.
use Rattle.std.specs.Prelude.{ℕ, ◌*◌, ◌^◌, Bool, eqb, if◌then◌else◌}
use Rattle.std.specs.Bool.{MatchBool}
use Rattle.apfloat_model.specs.declared.{kinds.Round.Round, status.StatusAnd.StatusAnd}
use Rattle.apfloat_model.specs.rounding.{Flags.Gives, Flags.bits_of, Rounding.ok_bits, Rounding.inexact_bit}
use Rattle.apfloat_model.specs.rounding.{Rounding.zero_sign, Answer.IsAnswer, DeliveredRoots.IsDeliveredRoot}
use Rattle.apfloat_model.specs.rounding.Outcome.{Outcome, settled, rounded, totalled, rooted}
use Rattle.apfloat_model.specs.formats.{Format.Format, Datum.Datum, Datum.finite}
use Rattle.apfloat_model.specs.arithmetic.Exact.{sign_of, magnitude, zero_sum_sign}
use Rattle.apfloat_model.specs.arithmetic.Sums.{sum, difference, IsSum, IsDifference}
use Rattle.apfloat_model.specs.arithmetic.{Products.product, Products.IsProduct, Quotients.quotient}
use Rattle.apfloat_model.specs.arithmetic.{Quotients.IsQuotient, FusedSums.fused_sum, FusedSums.IsFusedSum}
use Rattle.apfloat_model.specs.arithmetic.Conversions.{loses_zero_sign, IsConversion}
use Rattle.apfloat_machines.specs.{declared.flushing.Flush.Flush, Flushing.IsRoundedOrFlushed, Theorems.IsOnce}

-- what becomes of an outcome (`Yields`); no operation here has a root for its outcome
abbrev pub YieldsFlushed : Format → Flush → Round → Outcome → Datum → ℕ → Type 0
YieldsFlushed f flush mode (settled datum flags) value status = IsAnswer datum flags value status
YieldsFlushed f flush mode (rounded negative amount parts) value status =
    IsRoundedOrFlushed f flush mode negative amount parts value status
YieldsFlushed f flush mode (totalled left right exact parts) value status =
    IsRoundedOrFlushed f flush mode (sign_of (zero_sum_sign mode left right) exact) (magnitude exact) parts value status
YieldsFlushed f flush mode (rooted square parts) value status = IsDeliveredRoot f mode square parts value status

abbrev pub IsFlushedSum : Format → Flush → Round → Datum → Datum → Datum → ℕ → Type 0
IsFlushedSum f flush mode x y value status = YieldsFlushed f flush mode (sum f x y) value status

abbrev pub IsFlushedDifference : Format → Flush → Round → Datum → Datum → Datum → ℕ → Type 0
IsFlushedDifference f flush mode x y value status = YieldsFlushed f flush mode (difference f x y) value status

abbrev pub IsFlushedProduct : Format → Flush → Round → Datum → Datum → Datum → ℕ → Type 0
IsFlushedProduct f flush mode x y value status = YieldsFlushed f flush mode (product f x y) value status

abbrev pub IsFlushedQuotient : Format → Flush → Round → Datum → Datum → Datum → ℕ → Type 0
IsFlushedQuotient f flush mode x y value status = YieldsFlushed f flush mode (quotient f x y) value status

abbrev pub IsFlushedFusedSum : Format → Flush → Round → Datum → Datum → Datum → Datum → ℕ → Type 0
IsFlushedFusedSum f flush mode x y z value status = YieldsFlushed f flush mode (fused_sum f x y z) value status

-- the conversion of a datum of f into g
abbrev pub IsFlushedConversion : Format → Format → Flush → Round → Datum → Datum → ℕ → Type 0
IsFlushedConversion f g flush mode (finite b n) value status =
    MatchBool (eqb n 0)
    (IsAnswer (finite (zero_sign g.nonfinite b) 0) (if loses_zero_sign g b then inexact_bit else ok_bits) value status)
    (IsRoundedOrFlushed g flush mode b (n * 2 ^ g.scale) (2 ^ f.scale) value status)
IsFlushedConversion f g flush mode x value status = (loses : Bool) × IsConversion f g mode x value status loses

-- what `flushed` makes of the answer of each operation
pub record AreFlushed (f : Format) (flush : Flush) (answer result : StatusAnd Datum) : Type 0 where
  pub sum : (mode : Round) (x y : Datum) → Gives (IsSum f mode x y) answer
      → Gives (IsFlushedSum f flush mode x y) result
  pub difference : (mode : Round) (x y : Datum) → Gives (IsDifference f mode x y) answer
      → Gives (IsFlushedDifference f flush mode x y) result
  pub product : (mode : Round) (x y : Datum) → Gives (IsProduct f mode x y) answer
      → Gives (IsFlushedProduct f flush mode x y) result
  pub quotient : (mode : Round) (x y : Datum) → Gives (IsQuotient f mode x y) answer
      → Gives (IsFlushedQuotient f flush mode x y) result
  pub fused_sum : (mode : Round) (x y z : Datum) → Gives (IsFusedSum f mode x y z) answer
      → Gives (IsFlushedFusedSum f flush mode x y z) result
  pub conversion : (source : Format) (mode : Round) (x : Datum) (loses : Bool)
      → IsConversion source f mode x answer.value (bits_of answer.status) loses
      → Gives (IsFlushedConversion source f flush mode x) result

-- each has one answer
pub record FlushedHaveOneAnswer (f : Format) (flush : Flush) : Type 0 where
  pub sum : (mode : Round) (x y : Datum) → IsOnce (IsFlushedSum f flush mode x y)
  pub difference : (mode : Round) (x y : Datum) → IsOnce (IsFlushedDifference f flush mode x y)
  pub product : (mode : Round) (x y : Datum) → IsOnce (IsFlushedProduct f flush mode x y)
  pub quotient : (mode : Round) (x y : Datum) → IsOnce (IsFlushedQuotient f flush mode x y)
  pub fused_sum : (mode : Round) (x y z : Datum) → IsOnce (IsFlushedFusedSum f flush mode x y z)
  pub conversion : (source : Format) (mode : Round) (x : Datum) → IsOnce (IsFlushedConversion source f flush mode x)
