-- logB of each class of data, and the one answer of logB and of scaleB.
use Rattle.std.specs.{Bool.MatchBool, Int.w32, Int.w128}
use Rattle.std.specs.Prelude.{◌≡◌, ℕ, ◌^◌, ◌<◌, ℤ, pos, negsuc, Bool, true, false, eqb, if◌then◌else◌}
use Rattle.std.proofs.Common.{refl, sym, ◌∙◌, subst, arith, to_z, of_z, FitsSigned}
use Rattle.std.proofs.lemmas.Int.{to_z-of_z}
use Rattle.apfloat_model.specs.{declared.kinds.Round.Round, formats.Format.Format, formats.Format.nan_base}
use Rattle.apfloat_model.specs.{order.Classes.category_of, whole_numbers.WholeNumbers.IsFromSigned}
use Rattle.apfloat_model.specs.declared.kinds.Category.TheVariants.{Infinity, NaN, Normal, Zero}
use Rattle.apfloat_model.specs.declared.kinds.NonfiniteBehavior.{NonfiniteBehavior}
use Rattle.apfloat_model.specs.declared.kinds.NonfiniteBehavior.TheVariants.{IEEE754, NanOnly, NanNegativeZero}
use Rattle.apfloat_model.specs.formats.{Datum.Datum, Datum.finite, Datum.infinite, Datum.nan, Constants.infinity_of}
use Rattle.apfloat_model.specs.formats.{Constants.infinity_datum, Nan.invalid_if, Nan.is_signaling_nan}
use Rattle.apfloat_model.specs.rounding.{Answer.IsAnswer, Negation.negated, Rounding.ok_bits, Rounding.past_largest}
use Rattle.apfloat_model.specs.arithmetic.{Quotients.div_by_zero_bit, Signs.abs}
use Rattle.apfloat_model.specs.arithmetic.Exponents.{IsLogarithm, IsIlogb, zero_exponent}
use Rattle.apfloat_model.proofs.{general.Choices.match_case, order.Categories.no_infinity, order.Categories.no_nan}
use Rattle.apfloat_model.proofs.{rounding.Laws.delivered_once, arithmetic.Inverses.logarithm_once}
use Rattle.apfloat_model.proofs.Once.{Once, answer_once, from_signed_once}
use Rattle.apfloat_model.proofs.Determined.{same_answer, gives_once, exponent_once}
use Rattle.ieee_operations.specs.{Extrema.quieted_datum, Exponents.IsLogB}
use Rattle.ieee_operations.specs.Exponents.{IsLogBOfNumber, IsLogBOnce, IsIntegerLogBOnce, IsScaledOnce, IsScaledAlike}
use Rattle.apfloat_conversions.specs.Scalings.{IsScaled}

pub log_b_of_nan : (f : Format) (mode : Round) (x value : Datum) (status : ℕ) → category_of x ≡ NaN
    → value ≡ quieted_datum f x → status ≡ invalid_if (is_signaling_nan f x) → IsLogB f mode x value status
log_b_of_nan f mode (nan b s) value status e h k = record { value_is = h; status_is = k }
log_b_of_nan f mode (infinite b) value status e h k = cc
log_b_of_nan f mode (finite b n) value status e h k = absurd (no_nan (eqb n 0) e)

pub log_b_of_infinity : (f : Format) (mode : Round) (x value : Datum) (status : ℕ) → category_of x ≡ Infinity
    → value ≡ abs f x → status ≡ ok_bits → IsLogB f mode x value status
log_b_of_infinity f mode (nan b s) value status e h k = cc
log_b_of_infinity f mode (infinite true) value status e h k = record { value_is = h; status_is = k }
log_b_of_infinity f mode (infinite false) value status e h k = record { value_is = h; status_is = k }
log_b_of_infinity f mode (finite b n) value status e h k = absurd (no_infinity (eqb n 0) e)

-- the infinity, negated
negated_infinity : (kind : NonfiniteBehavior) (base : ℕ)
    → negated kind (past_largest kind base false) ≡ past_largest kind base true
negated_infinity IEEE754 base = refl
negated_infinity NanOnly base = refl
negated_infinity NanNegativeZero base = refl

of_zero : (test : Bool) (P Q : Type 0) → (if test then Zero else Normal) ≡ Zero → P → MatchBool test P Q
of_zero true P Q e h = h
of_zero false P Q e h = cc

pub log_b_of_zero : (f : Format) (mode : Round) (x value : Datum) (status : ℕ) → category_of x ≡ Zero
    → value ≡ negated f.nonfinite (infinity_datum f) → status ≡ div_by_zero_bit → IsLogB f mode x value status
log_b_of_zero f mode (nan b s) value status e h k = cc
log_b_of_zero f mode (infinite b) value status e h k = cc
log_b_of_zero f mode (finite b n) value status e h k =
    of_zero (eqb n 0) (IsAnswer (infinity_of f true) div_by_zero_bit value status)
    (IsLogBOfNumber f mode n value status) e
    (record { value_is = h ∙ negated_infinity f.nonfinite (nan_base f); status_is = k })

of_number : (f : Format) (mode : Round) (n : ℕ) (exponent : ℤ) (value : Datum) (status : ℕ) (P : Type 0) (test : Bool)
    → (if test then Zero else Normal) ≡ Normal → MatchBool test (exponent ≡ zero_exponent) (IsLogarithm f n exponent)
    → IsFromSigned f mode exponent value status → MatchBool test P (IsLogBOfNumber f mode n value status)
of_number f mode n exponent value status P true e h k = cc
of_number f mode n exponent value status P false e h k =
    record { exponent = exponent; is_logarithm = h; is_converted = k }

pub log_b_of_number : (f : Format) (mode : Round) (x : Datum) (exponent : ℤ) (value : Datum) (status : ℕ)
    → category_of x ≡ Normal → IsIlogb f x exponent → IsFromSigned f mode exponent value status
    → IsLogB f mode x value status
log_b_of_number f mode (nan b s) exponent value status e h k = cc
log_b_of_number f mode (infinite b) exponent value status e h k = cc
log_b_of_number f mode (finite b n) exponent value status e h k =
    of_number f mode n exponent value status (IsAnswer (infinity_of f true) div_by_zero_bit value status) (eqb n 0) e
    h k

-- ---- an integer of 32 bits as one of 128 bits

widened : (e : ℤ) → FitsSigned w32 e → FitsSigned w128 e
widened (pos n) h = let m : n < 2 ^ 31 = h.sfits in record { sfits = omega (arith, m) }
widened (negsuc n) h = let m : n < 2 ^ 31 = h.sfits in record { sfits = omega (arith, m) }

pub same_wide : (e : ℤ) → FitsSigned w32 e → to_z w128 (of_z w128 (to_z w32 (of_z w32 e))) ≡ e
same_wide e h = rw (to_z-of_z w32 e h) (to_z-of_z w128 e (widened e h))

-- ---- one answer

number_once : (f : Format) (mode : Round) (n : ℕ) → Once (IsLogBOfNumber f mode n)
number_once f mode n v w r s h k =
    let e = logarithm_once f n h.exponent k.exponent h.is_logarithm k.is_logarithm in
    from_signed_once f mode k.exponent v w r s (subst (λ z. IsFromSigned f mode z v r) e h.is_converted) k.is_converted

once : (f : Format) (mode : Round) (x : Datum) → Once (IsLogB f mode x)
once f mode (nan b s) = answer_once _ _
once f mode (infinite b) = answer_once _ _
once f mode (finite b n) =
    match_case Once (eqb n 0) (IsAnswer _ _) (IsLogBOfNumber f mode n) (answer_once _ _) (number_once f mode n)

pub log_b_once : IsLogBOnce
log_b_once f mode x = gives_once (IsLogB f mode x) (once f mode x)

pub integer_log_b_once : IsIntegerLogBOnce
integer_log_b_once f x answer other h k =
    same_answer answer other (exponent_once f x answer.value other.value h.is_exponent k.is_exponent)
    (h.status_is ∙ sym k.status_is)

once_scaled : (f : Format) (mode : Round) (x : Datum) (places : ℤ) → Once (IsScaled f mode x places)
once_scaled f mode (nan b s) places = answer_once _ _
once_scaled f mode (infinite b) places = answer_once _ _
once_scaled f mode (finite b n) places = delivered_once f mode _ _ _

pub scaled_once : IsScaledOnce
scaled_once f mode x places = gives_once (IsScaled f mode x places) (once_scaled f mode x places)

pub scaled_alike : IsScaledAlike
scaled_alike f mode (nan b s) places value status h = h.value_is
scaled_alike f mode (infinite b) places value status h = h.value_is
scaled_alike f mode (finite b n) places value status h = (status, h)
