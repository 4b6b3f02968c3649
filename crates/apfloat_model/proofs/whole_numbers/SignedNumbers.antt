-- A signed integer in a format, from its magnitude.
use Rattle.std.proofs.Common.{◌≡◌, ℕ, zero, suc, pos, neg_ℤ, ◌*◌, ◌^◌, ◌<◌, ◌≤◌, Bool, true}
use Rattle.std.proofs.Common.{false, not, eqb, refl, arith}
use Rattle.std.proofs.{Math.Nat.mul-pos, lemmas.Bool.ne_eqb, lemmas.Nat.pow_pos}
use Rattle.apfloat_model.specs.declared.kinds.Round.{Round, TheVariants.NearestTiesToEven, TheVariants.TowardPositive}
use Rattle.apfloat_model.specs.declared.kinds.Round.TheVariants.{TowardNegative, TowardZero, NearestTiesToAway}
use Rattle.apfloat_model.specs.declared.kinds.NonfiniteBehavior.TheVariants.{IEEE754}
use Rattle.apfloat_model.specs.formats.{Datum.Datum, Datum.finite, Format.Format, Format.largest}
use Rattle.apfloat_model.specs.rounding.Negation.{negated, swapped}
use Rattle.apfloat_model.specs.whole_numbers.WholeNumbers.{IsFromUnsigned, IsFromSigned}
use Rattle.apfloat_model.proofs.{rounding.Laws.delivered_swapped, formats.Greatest.greatest_some}
use Rattle.apfloat_model.proofs.arithmetic.Signs.{sign_signed, magnitude_signed}

-- negation changes the sign, of a zero too
pub negated_is : (negative : Bool) (n : ℕ) → negated IEEE754 (finite negative n) ≡ finite (not negative) n
negated_is s zero = refl
negated_is s (suc n) = let e : eqb (suc n) 0 ≡ false = ne_eqb (suc n) 0 (λ z. omega arith) in rw e refl

-- a mode swapped twice is the mode itself
swapped_back : (mode : Round) → swapped (swapped mode) ≡ mode
swapped_back NearestTiesToEven = refl
swapped_back TowardPositive = refl
swapped_back TowardNegative = refl
swapped_back TowardZero = refl
swapped_back NearestTiesToAway = refl

-- a nonnegative number converts like the unsigned number
pub signed_above : (format : Format) (mode : Round) (n : ℕ) (value : Datum) (status : ℕ)
    → IsFromUnsigned format mode n value status → IsFromSigned format mode (pos n) value status
signed_above format mode zero v s h = h
signed_above format mode (suc n) v s h = rw (magnitude_signed false (suc n)) h

-- a negative number converts to the negation of its magnitude in the swapped mode
pub signed_below : (format : Format) (mode : Round) (n : ℕ) (value : Datum) (status : ℕ) → 0 < largest format → 0 < n
    → IsFromUnsigned format (swapped mode) n value status
    → IsFromSigned format mode (neg_ℤ (pos n)) (negated format.nonfinite value) status
signed_below format mode n v s l p h =
    let d = delivered_swapped format (swapped mode) false (n * 2 ^ format.scale) 1 v s l h in
    rw (sign_signed false true n p, magnitude_signed true n) (rw (swapped_back mode) at d)

-- a format of three digits or more has a nonzero number
pub largest_some : (format : Format) → 3 ≤ format.precision → 0 < largest format
largest_some format l = mul-pos (greatest_some format.nonfinite format.precision l) (pow_pos format.span)
