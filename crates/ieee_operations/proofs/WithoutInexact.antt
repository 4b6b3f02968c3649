-- The flags of roundings to integers, without INEXACT.
use Rattle.std.proofs.Common.{◌≡◌, ℕ, Bool, true, false, ◌||◌, eqb, ℤ, refl, ap, ◌∙◌, if◌then◌else◌, ◌^◌}
use Rattle.std.specs.Prelude.{int_lt}
use Rattle.apfloat_model.specs.{declared.kinds.Round.Round, formats.Format.Format, formats.Datum.Datum}
use Rattle.apfloat_model.specs.{arithmetic.Exact.signed, rounding.Rounding.ok_bits, rounding.Rounding.inexact_bit}
use Rattle.apfloat_model.specs.formats.{Datum.finite, Datum.infinite, Datum.nan, Nan.invalid_if, Nan.is_signaling}
use Rattle.apfloat_model.specs.whole_numbers.WholeNumbers.{IsRoundToIntegral, inexact_unless, whole_pick, whole_quanta}
use Rattle.apfloat_model.specs.whole_numbers.WholeNumbersOut.{whole_within, invalid_whole, exact_or_not}
use Rattle.ieee_operations.specs.{StatusFlags.lowered, WholeNumbers.IsRoundedToIntegral, WholeNumbers.is_out_of_range}

lowered_invalid : (test : Bool) → lowered (invalid_if test) inexact_bit ≡ invalid_if test
lowered_invalid true = refl
lowered_invalid false = refl

lowered_inexact : (exact : Bool) → lowered (inexact_unless exact) inexact_bit ≡ ok_bits
lowered_inexact true = refl
lowered_inexact false = refl

pub integral_lowered : (f : Format) (mode : Round) (x value : Datum) (status : ℕ)
    → IsRoundToIntegral f mode x value status → IsRoundedToIntegral f mode x value (lowered status inexact_bit)
integral_lowered f mode (nan b s) value status h =
    record {
      value_is = h.value_is;
      status_is = ap (λ (t : ℕ). lowered t inexact_bit) h.status_is ∙ lowered_invalid (is_signaling f s);
    }
integral_lowered f mode (infinite b) value status h =
    record {
      value_is = h.value_is;
      status_is = ap (λ (t : ℕ). lowered t inexact_bit) h.status_is ∙ lowered_inexact true;
    }
integral_lowered f mode (finite b n) value status h =
    record {
      value_is = h.value_is;
      status_is = ap (λ (t : ℕ). lowered t inexact_bit) h.status_is ∙ lowered_inexact (eqb (whole_quanta f mode b n) n);
    }

ranged_lowered : (below past exact minus_zero : Bool) (low high number : ℤ) → lowered (if below then invalid_whole low
    else (if past then invalid_whole high else exact_or_not number exact minus_zero)).status inexact_bit
    ≡ invalid_if (below || past)
ranged_lowered true past exact minus_zero low high number = refl
ranged_lowered false true exact minus_zero low high number = refl
ranged_lowered false false true minus_zero low high number = refl
ranged_lowered false false false minus_zero low high number = refl

pub converted_lowered : (f : Format) (mode : Round) (low high : ℤ) (x : Datum)
    → lowered (whole_within f mode low high x).status inexact_bit ≡ invalid_if (is_out_of_range f mode low high x)
converted_lowered f mode low high (nan b s) = refl
converted_lowered f mode low high (infinite b) = refl
converted_lowered f mode low high (finite b n) =
    ranged_lowered (int_lt (signed b (whole_pick mode b n (2 ^ f.scale))) low)
    (int_lt high (signed b (whole_pick mode b n (2 ^ f.scale)))) (eqb (whole_quanta f mode b n) n) _ low high
    (signed b (whole_pick mode b n (2 ^ f.scale)))
