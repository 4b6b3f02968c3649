-- NaNs (IEEE 754-2019 6.2), and the results that are NaNs.
use Rattle.std.specs.Prelude.{ℕ, ◌-◌, ◌/◌, ◌^◌, Bool, false, not, ◌||◌, eqb, bit_and, bit_or, if◌then◌else◌}
use Rattle.apfloat_model.specs.declared.kinds.NonfiniteBehavior.{NonfiniteBehavior}
use Rattle.apfloat_model.specs.declared.kinds.NonfiniteBehavior.TheVariants.{IEEE754, NanOnly, NanNegativeZero}
use Rattle.apfloat_model.specs.formats.Format.{Format, nan_base, payload_mask, quiet_bits}
use Rattle.apfloat_model.specs.formats.Datum.{Datum, finite, infinite, nan}
use Rattle.apfloat_model.specs.rounding.{Rounding.ok_bits, Answer.IsAnswer}

-- the flag of an invalid operation (7.2)
abbrev pub invalid_bit : ℕ
invalid_bit = 1

abbrev pub invalid_if : Bool → ℕ
invalid_if signaling = if signaling then invalid_bit else ok_bits

-- the first bit of the payload: of the bits that make a NaN quiet, the one that operations set (6.2.1)
abbrev pub quiet_bit_of : NonfiniteBehavior → ℕ → ℕ
quiet_bit_of IEEE754 precision = 2 ^ (precision - 2)
quiet_bit_of NanOnly precision = 0
quiet_bit_of NanNegativeZero precision = 0

abbrev pub quiet_bit : Format → ℕ
quiet_bit f = quiet_bit_of f.nonfinite f.precision

-- ---- a significand

-- the significand of a NaN; of any other datum 0
abbrev pub nan_significand : Datum → ℕ
nan_significand (nan b s) = s
nan_significand (infinite b) = 0
nan_significand (finite b n) = 0

-- signaling: not all the quiet bits are set
abbrev pub is_signaling : Format → ℕ → Bool
is_signaling f significand = not (eqb (bit_and significand (quiet_bits f)) (quiet_bits f))

abbrev pub quieted : Format → ℕ → ℕ
quieted f significand = if is_signaling f significand then bit_or significand (quiet_bit f) else significand

abbrev pub quiet_significand : Format → ℕ → ℕ
quiet_significand f payload = bit_or (bit_or (nan_base f) (quiet_bits f)) (bit_and payload (payload_mask f))

abbrev pub cleared : ℕ → ℕ → ℕ
cleared significand bits = significand - bit_and significand bits

-- a signaling NaN has a payload
abbrev pub with_payload : Format → ℕ → ℕ
with_payload f significand = if eqb (bit_and significand (payload_mask f)) 0
    then bit_or significand (quiet_bit f / 2) else significand

abbrev pub signaling_significand : Format → ℕ → ℕ
signaling_significand f payload = with_payload f (cleared (quiet_significand f payload) (quiet_bit f))

-- ---- the NaNs with a payload

abbrev pub qnan : Format → ℕ → Datum
qnan f payload = nan false (quiet_significand f payload)

abbrev pub snan : Format → ℕ → Datum
snan f payload = nan false (signaling_significand f payload)

abbrev pub nan_sign : NonfiniteBehavior → Bool → Bool
nan_sign IEEE754 negative = negative
nan_sign NanOnly negative = negative
nan_sign NanNegativeZero negative = false

-- ---- results (6.2.3)

-- the result if one operand is a NaN
abbrev pub IsOfNan : Format → Bool → ℕ → Datum → ℕ → Type 0
IsOfNan f negative significand value status =
    IsAnswer (nan negative (quieted f significand)) (invalid_if (is_signaling f significand)) value status

abbrev pub is_signaling_nan : Format → Datum → Bool
is_signaling_nan f (finite negative quanta) = false
is_signaling_nan f (infinite negative) = false
is_signaling_nan f (nan negative significand) = is_signaling f significand

-- the result if the left operand is a NaN, given the right one
abbrev pub IsOfNans : Format → Bool → ℕ → Datum → Datum → ℕ → Type 0
IsOfNans f negative significand right value status =
    IsAnswer (nan negative (quieted f significand))
    (invalid_if (is_signaling f significand || is_signaling_nan f right)) value status

-- the result of an invalid operation on operands that are not NaNs (7.2)
abbrev pub IsInvalid : Format → Datum → ℕ → Type 0
IsInvalid f value status = IsAnswer (qnan f 0) invalid_bit value status
