-- A converted number is a converted value.
use Rattle.std.proofs.Common.{◌≡◌, ℕ, Bool, true, false, refl, sym, subst, inl, inr}
use Rattle.std.proofs.lemmas.Bool.{true≢false}
use Rattle.apfloat_model.specs.{bits.Layout.Layout, formats.Format.Format, formats.Datum.Datum, formats.Datum.finite}
use Rattle.fast_bits.specs.declared.lanes.{lanes.Lane.Lane, constants.Target.Target}
use Rattle.fast_bits.specs.lanes.{At.format_at, At.layout_at, Lanes.IsLane, Lanes.finished, Lanes.flags_of}
use Rattle.rustc_apfloat.specs.{Conversions.IsConversion, Lawful.Constants, Lawful.format_with, Lawful.layout_with}
use Rattle.rustc_apfloat.specs.declared.Round.{Round}
use Rattle.small_formats.specs.declared.saturation.saturation.Overflow.{Overflow}
use Rattle.small_formats.specs.declared.saturation.saturation.Overflow.TheVariants.{Rounded, Saturated, Finite}
use Rattle.small_formats.specs.saturation.Saturation.{IsConversionBy}
use Rattle.apfloat_arrays.specs.{Outcomes.raised, Singles.IsPlanFor, Singles.outcome_of, Singles.saturates}
use Rattle.apfloat_arrays.specs.Values.{IsAnswerAt, IsAnswerFrom}

-- a finite number's conversion, with any treatment of overflow
finished_by : (overflow : Overflow) (f g : Format) (mode : Round) (negative : Bool) (quanta : ℕ) (rounded : Datum)
    (status : ℕ) (loses : Bool) → IsConversion f g mode (finite negative quanta) rounded status loses
    → IsConversionBy overflow f g mode (finite negative quanta)
    (finished (saturates overflow) g negative rounded) status loses
finished_by Rounded f g mode negative quanta rounded status loses it = it
finished_by Saturated f g mode negative quanta rounded status loses it =
    record { rounded = rounded; is_conversion = it; value_is = refl }
finished_by (Finite nans) f g mode negative quanta rounded status loses it =
    record { rounded = rounded; is_conversion = it; value_is = refl }

-- an infinity's or a NaN's, where no conversion saturates
special_by : (overflow : Overflow) (f g : Format) (mode : Round) (special value : Datum) (status : ℕ) (loses : Bool)
    → saturates overflow ≡ false → IsConversion f g mode special value status loses
    → IsConversionBy overflow f g mode special value status loses
special_by Rounded f g mode special value status loses kept it = it
special_by Saturated f g mode special value status loses kept it = absurd (true≢false kept)
special_by (Finite nans) f g mode special value status loses kept it = absurd (true≢false kept)

pub lane_answers : (overflow : Overflow) (c d : Constants) (mode : Round) (bits : ℕ) (lane : Lane)
    → IsLane (saturates overflow) (format_with c) (layout_with c) (format_with d) (layout_with d) mode bits lane
    → IsAnswerFrom overflow c d mode bits (record { bits = lane.bits; outcome = outcome_of lane })
lane_answers overflow c d mode bits lane (inl it) =
    record {
      value = finished (saturates overflow) (format_with d) it.negative it.rounded;
      loses = it.loses;
      is_conversion =
          subst
          (λ (x : Datum). IsConversionBy overflow (format_with c) (format_with d) mode x
          (finished (saturates overflow) (format_with d) it.negative it.rounded) (flags_of lane) it.loses)
          (sym it.number)
          (finished_by overflow (format_with c) (format_with d) mode it.negative it.quanta it.rounded (flags_of lane)
          it.loses it.is_conversion);
      is_encoded = it.is_encoded;
      nan_is = it.nan_is;
    }
lane_answers overflow c d mode bits lane (inr both) =
    let it = both.1 in
    record {
      value = it.value;
      loses = it.loses;
      is_conversion =
          subst
          (λ (x : Datum). IsConversionBy overflow (format_with c) (format_with d) mode x it.value (flags_of lane)
          it.loses) (sym it.special_is)
          (special_by overflow (format_with c) (format_with d) mode it.special it.value (flags_of lane) it.loses both.0
          it.is_conversion);
      is_encoded = it.is_encoded;
      nan_is = it.nan_is;
    }

-- a lane that was made with the target, the saturation and the mode of a plan for the conversion is its result
pub plan_answers : (overflow : Overflow) (c d : Constants) (mode : Round) (target : Target) (by : Bool) (round : Round)
    (word bits : ℕ) (lane : Lane) → IsPlanFor overflow d mode target by round → bits ≡ word
    → IsLane by (format_with c) (layout_with c) (format_at target) (layout_at target) round bits lane
    → IsAnswerAt overflow c d mode word lane.bits (outcome_of lane)
plan_answers overflow c d mode target by round word bits lane is read it =
    lane_answers overflow c d mode word lane
    (subst (λ (n : ℕ). IsLane (saturates overflow) (format_with c) (layout_with c) (format_with d) (layout_with d)
    mode n lane) read
    (subst (λ (r : Round). IsLane (saturates overflow) (format_with c) (layout_with c) (format_with d)
    (layout_with d) r bits lane) is.round_is
    (subst (λ (b : Bool). IsLane b (format_with c) (layout_with c) (format_with d) (layout_with d) round
    bits lane) is.saturates_is
    (subst (λ (l : Layout). IsLane by (format_with c) (layout_with c) (format_with d) l round
    bits lane) is.layout
    (subst (λ (f : Format). IsLane by (format_with c) (layout_with c) f (layout_at target) round bits lane)
    is.format it)))))

-- ---- counts

-- the flags of a lane, by its parts
pub record AreLanesCounted (lane : Lane) : Type 0 where
  pub inexact : raised 16 (outcome_of lane) ≡ lane.inexact
  pub underflow : raised 8 (outcome_of lane) ≡ lane.underflow
  pub overflow : raised 4 (outcome_of lane) ≡ lane.overflow
  pub invalid : raised 1 (outcome_of lane) ≡ lane.invalid

abbrev pub lane_with : ℕ → Bool → Bool → Bool → Bool → Bool → Lane
lane_with bits inexact underflow overflow invalid is_nan =
    record {
      bits = bits;
      inexact = inexact;
      underflow = underflow;
      overflow = overflow;
      invalid = invalid;
      is_nan = is_nan;
    }

flags_counted : (bits : ℕ) (inexact underflow overflow invalid is_nan : Bool)
    → AreLanesCounted (lane_with bits inexact underflow overflow invalid is_nan)
flags_counted b true true true true n = record { inexact = refl; underflow = refl; overflow = refl; invalid = refl }
flags_counted b true true true false n = record { inexact = refl; underflow = refl; overflow = refl; invalid = refl }
flags_counted b true true false true n = record { inexact = refl; underflow = refl; overflow = refl; invalid = refl }
flags_counted b true true false false n = record { inexact = refl; underflow = refl; overflow = refl; invalid = refl }
flags_counted b true false true true n = record { inexact = refl; underflow = refl; overflow = refl; invalid = refl }
flags_counted b true false true false n = record { inexact = refl; underflow = refl; overflow = refl; invalid = refl }
flags_counted b true false false true n = record { inexact = refl; underflow = refl; overflow = refl; invalid = refl }
flags_counted b true false false false n = record { inexact = refl; underflow = refl; overflow = refl; invalid = refl }
flags_counted b false true true true n = record { inexact = refl; underflow = refl; overflow = refl; invalid = refl }
flags_counted b false true true false n = record { inexact = refl; underflow = refl; overflow = refl; invalid = refl }
flags_counted b false true false true n = record { inexact = refl; underflow = refl; overflow = refl; invalid = refl }
flags_counted b false true false false n = record { inexact = refl; underflow = refl; overflow = refl; invalid = refl }
flags_counted b false false true true n = record { inexact = refl; underflow = refl; overflow = refl; invalid = refl }
flags_counted b false false true false n = record { inexact = refl; underflow = refl; overflow = refl; invalid = refl }
flags_counted b false false false true n = record { inexact = refl; underflow = refl; overflow = refl; invalid = refl }
flags_counted b false false false false n = record { inexact = refl; underflow = refl; overflow = refl; invalid = refl }

pub lane_counted : (lane : Lane) → AreLanesCounted lane
lane_counted lane = flags_counted lane.bits lane.inexact lane.underflow lane.overflow lane.invalid lane.is_nan
