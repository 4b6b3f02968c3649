-- The least datum that compares greater (IEEE 754-2019 5.3.1), and the greatest that compares less.
use Rattle.std.specs.Prelude.{◌≡◌, ℕ, ◌+◌, ◌-◌, Bool, true, false, eqb}
use Rattle.std.specs.Bool.{MatchBool}
use Rattle.apfloat_model.specs.formats.{Format.Format, Format.largest, Datum.Datum, Datum.finite, Datum.infinite}
use Rattle.apfloat_model.specs.formats.{Datum.nan, Constants.smallest_datum, Constants.infinity_datum}
use Rattle.apfloat_model.specs.formats.Nan.{invalid_bit, is_signaling, quiet_significand}
use Rattle.apfloat_model.specs.rounding.Grid.{IsBelow, IsAbove}
use Rattle.apfloat_model.specs.rounding.{Rounding.ok_bits, Rounding.signed_quanta, Negation.negated, Answer.IsAnswer}

-- for a positive number below the largest: the least greater number
pub record IsNextGreater (f : Format) (quanta : ℕ) (value : Datum) (status : ℕ) : Type 0 where
  pub next : ℕ
  pub is_above : IsAbove f.precision next (quanta + 1) 1
  pub is : IsAnswer (finite false next) ok_bits value status

-- for a negative number: the greatest lesser magnitude
pub record IsNextLess (f : Format) (quanta : ℕ) (value : Datum) (status : ℕ) : Type 0 where
  pub next : ℕ
  pub is_below : IsBelow f.precision next (quanta - 1) 1
  pub is : IsAnswer (signed_quanta f.nonfinite true next) ok_bits value status

abbrev pub IsNextOfNumber : Format → Bool → ℕ → Datum → ℕ → Type 0
IsNextOfNumber f true quanta value status = IsNextLess f quanta value status
IsNextOfNumber f false quanta value status =
    MatchBool (eqb quanta (largest f)) (IsAnswer (infinity_datum f) ok_bits value status)
    (IsNextGreater f quanta value status)

abbrev pub IsNextUp : Format → Datum → Datum → ℕ → Type 0
IsNextUp f (nan b s) value status =
    MatchBool (is_signaling f s) (IsAnswer (nan b (quiet_significand f 0)) invalid_bit value status)
    (IsAnswer (nan b s) ok_bits value status)
IsNextUp f (infinite b) value status =
    MatchBool b (IsAnswer (finite true (largest f)) ok_bits value status)
    (IsAnswer (infinite false) ok_bits value status)
IsNextUp f (finite b n) value status =
    MatchBool (eqb n 0) (IsAnswer smallest_datum ok_bits value status) (IsNextOfNumber f b n value status)

pub record IsNextDown (f : Format) (x value : Datum) (status : ℕ) : Type 0 where
  pub up_of_negated : Datum
  pub is_next_up : IsNextUp f (negated f.nonfinite x) up_of_negated status
  pub is : value ≡ negated f.nonfinite up_of_negated
