-- Scales: the powers of two from 2 ^ -127 to 2 ^ 127, and a NaN, in 8 bits. There is no sign and no zero.
use Rattle.std.specs.Prelude.{◌≡◌, ◌⊎◌, ℕ, ◌+◌, ◌*◌, ◌^◌, ◌<◌, Bool, true, false, not, eqb, ltb, if◌then◌else◌}
use Rattle.std.specs.Bool.{MatchBool}
use Rattle.apfloat_model.specs.declared.kinds.{NonfiniteBehavior.TheVariants.NanOnly, Round.Round}
use Rattle.apfloat_model.specs.formats.{Format.Format, Format.payload_mask, Datum.Datum, Datum.finite, Datum.infinite}
use Rattle.apfloat_model.specs.formats.{Datum.nan, Nan.invalid_bit, Nan.invalid_if, Nan.is_signaling}
use Rattle.apfloat_model.specs.rounding.Rounding.{takes_above, leads_out, ok_bits, overflow_bit, underflow_bit}
use Rattle.apfloat_model.specs.rounding.Rounding.{inexact_bit}
use Rattle.small_formats.specs.IndexPicks.{IsIndexPick}

-- the quantum is the least scale
abbrev pub scale_format : Format
scale_format =
    record {
      precision = 1;
      scale = 127;
      span = 254;
      nonfinite = NanOnly;
      explicit_integer_bit = false;
      tiny_before_rounding = false;
      ieee_flags = false;
    }

abbrev pub nan_code : ℕ
nan_code = 255

abbrev pub largest_code : ℕ
largest_code = 254

abbrev pub scale_of : ℕ → Datum
scale_of code = if eqb code nan_code then nan false 0 else finite false (2 ^ code)

-- ---- numbers: the scale whose code is even is the one that ties go to, where they go to even

-- Between two scales one of the two is taken. Below the least scale there is nothing: that scale is the result.
abbrev pub IsPickedScale : (ℕ → ℕ → Bool → Bool) → ℕ → ℕ → ℕ → Type 0
IsPickedScale takes amount parts code =
    ((amount < parts) × (code ≡ 0)) ⊎ IsIndexPick takes (λ low. 2 ^ low) amount parts code

abbrev pub delivered_code : Round → ℕ → ℕ
delivered_code mode picked =
    if ltb largest_code picked then (if leads_out mode false then nan_code else largest_code) else picked

abbrev pub scale_status : Round → ℕ → ℕ → ℕ → ℕ
scale_status mode amount parts picked =
    if ltb largest_code picked
    then (if leads_out mode false then overflow_bit + inexact_bit else inexact_bit)
    else (if eqb (2 ^ picked * parts) amount then ok_bits
    else (if ltb amount parts then underflow_bit + inexact_bit else inexact_bit))

-- The positive magnitude amount / parts quanta, rounded once: `takes` decides between two scales, and the mode what is
-- delivered past the largest one.
pub record IsDeliveredScale (mode : Round) (takes : ℕ → ℕ → Bool → Bool) (amount parts code status : ℕ)
    : Type 0 where
  pub picked : ℕ
  pub is_picked : IsPickedScale takes amount parts picked
  pub code_is : code ≡ delivered_code mode picked
  pub status_is : status ≡ scale_status mode amount parts picked

pub record IsScaleOf (f : Format) (mode : Round) (takes : ℕ → ℕ → Bool → Bool) (quanta code status : ℕ)
    (loses_info : Bool) : Type 0 where
  pub is_rounded : IsDeliveredScale mode takes (quanta * 2 ^ scale_format.scale) (2 ^ f.scale) code status
  pub loses_is : loses_info ≡ not (eqb status ok_bits)

-- ---- any value

pub record IsCode (given flags : ℕ) (loses : Bool) (code status : ℕ) (loses_info : Bool) : Type 0 where
  pub code_is : code ≡ given
  pub status_is : status ≡ flags
  pub loses_is : loses_info ≡ loses

-- A value of the format f becomes this code. A zero becomes the least scale, and infinity the NaN; what is below zero
-- has no scale, and becomes the NaN, which is invalid. A NaN loses its payload.
abbrev pub IsScaleIn : Format → Round → (ℕ → ℕ → Bool → Bool) → Datum → ℕ → ℕ → Bool → Type 0
IsScaleIn f mode takes (nan b s) code status loses_info =
    IsCode nan_code (invalid_if (is_signaling f s)) (not (eqb (payload_mask f) 0)) code status loses_info
IsScaleIn f mode takes (infinite b) code status loses_info =
    IsCode nan_code (if b then invalid_bit else inexact_bit) true code status loses_info
IsScaleIn f mode takes (finite b n) code status loses_info =
    MatchBool (eqb n 0) (IsCode 0 (underflow_bit + inexact_bit) true code status loses_info)
    (MatchBool b (IsCode nan_code invalid_bit true code status loses_info)
    (IsScaleOf f mode takes n code status loses_info))

abbrev pub IsScale : Format → Round → Datum → ℕ → ℕ → Bool → Type 0
IsScale f mode x code status loses_info = IsScaleIn f mode (takes_above mode false) x code status loses_info
