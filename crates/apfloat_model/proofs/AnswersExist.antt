-- Each operation has a result, in every format of at least one digit.
use Rattle.std.proofs.Common.{ℕ, ◌+◌, ◌-◌, ◌^◌, ◌<◌, Bool, true, false, eqb, sym, refl, lit<}
use Rattle.std.proofs.lemmas.Nat.{pow_pos}
use Rattle.std.specs.Prelude.{ℤ}
use Rattle.apfloat_model.specs.declared.kinds.Round.{Round, TheVariants.NearestTiesToEven}
use Rattle.apfloat_model.specs.formats.Format.{Format, largest}
use Rattle.apfloat_model.specs.formats.{Datum.Datum, Datum.finite, Datum.infinite, Datum.nan, Nan.is_signaling}
use Rattle.apfloat_model.specs.{rounding.Negation.negated, rounding.Answer.IsAnswer, arithmetic.Sums.IsSum}
use Rattle.apfloat_model.specs.arithmetic.{Sums.IsDifference, Products.IsProduct, Quotients.IsQuotient, Roots.IsRoot}
use Rattle.apfloat_model.specs.arithmetic.{FusedSums.IsFusedSum, Scaling.IsScaling, Remainders.IsRemainder}
use Rattle.apfloat_model.specs.arithmetic.NextUp.{IsNextGreater, IsNextOfNumber, IsNextUp, IsNextDown}
use Rattle.apfloat_model.specs.{arithmetic.Exact.down, whole_numbers.WholeNumbers.IsRoundToIntegral}
use Rattle.apfloat_model.proofs.general.{Choices.match_case, Powers.twice_half}
use Rattle.apfloat_model.proofs.rounding.NeighboursExist.{below_exists, above_exists}
use Rattle.apfloat_model.proofs.Outcomes.{yields_something, sum_sound, difference_sound, product_sound, quotient_sound}
use Rattle.apfloat_model.proofs.Outcomes.{root_sound, fused_sum_sound, integral_sound, remainder_sound}
pub use Rattle.apfloat_model.proofs.rounding.DeliveriesExist.{HasAnswer, answer_exists}
pub use Rattle.apfloat_model.proofs.rounding.DeliveriesExist.{rounded_exists, delivered_root_exists}

module _ (format : Format) (precise : 0 < format.precision) where
  -- each of the following operations has a result for all operands
  pub sum_exists : (mode : Round) (x y : Datum) → HasAnswer (IsSum format mode x y)
  sum_exists mode x y = yields_something format mode _ precise (sum_sound format x y)

  pub difference_exists : (mode : Round) (x y : Datum) → HasAnswer (IsDifference format mode x y)
  difference_exists mode x y = yields_something format mode _ precise (difference_sound format x y)

  pub product_exists : (mode : Round) (x y : Datum) → HasAnswer (IsProduct format mode x y)
  product_exists mode x y = yields_something format mode _ precise (product_sound format x y)

  pub quotient_exists : (mode : Round) (x y : Datum) → HasAnswer (IsQuotient format mode x y)
  quotient_exists mode x y = yields_something format mode _ precise (quotient_sound format x y)

  pub root_exists : (mode : Round) (x : Datum) → HasAnswer (IsRoot format mode x)
  root_exists mode x = yields_something format mode _ precise (root_sound format x)

  pub fused_sum_exists : (mode : Round) (x y z : Datum) → HasAnswer (IsFusedSum format mode x y z)
  fused_sum_exists mode x y z = yields_something format mode _ precise (fused_sum_sound format x y z)

  pub scaling_exists : (mode : Round) (x : Datum) (j : ℤ) → (value : Datum) × IsScaling format mode x j value
  scaling_exists mode (nan b s) j = (_, refl)
  scaling_exists mode (infinite b) j = (_, refl)
  scaling_exists mode (finite b n) j =
      let r = rounded_exists format precise mode b _ _ (pow_pos (down j)) in (r.0, (r.1.0, r.1.1))

  pub round_to_integral_exists : (mode : Round) (x : Datum) → HasAnswer (IsRoundToIntegral format mode x)
  round_to_integral_exists mode x = yields_something format mode _ precise (integral_sound format mode x)

  pub remainder_exists : (quotient : ℕ → ℕ → ℕ) (x y : Datum) → HasAnswer (IsRemainder format quotient x y)
  remainder_exists quotient x y =
      yields_something format NearestTiesToEven _ precise (remainder_sound format quotient x y)

  next_of_number_exists : (negative : Bool) (quanta : ℕ) → HasAnswer (IsNextOfNumber format negative quanta)
  next_of_number_exists true quanta =
      let b = below_exists format.precision (2 ^ (format.precision - 1)) (quanta - 1) 1 (lit< tt)
      (sym (twice_half format.precision precise)) in
      (_, (_, record { next = b.0; is_below = b.1; is = record { value_is = refl; status_is = refl } }))
  next_of_number_exists false quanta =
      let a = above_exists format.precision (2 ^ (format.precision - 1)) (quanta + 1) 1 (lit< tt)
      (sym (twice_half format.precision precise)) in
      match_case HasAnswer (eqb quanta (largest format)) (IsAnswer _ _) (IsNextGreater format quanta)
      (answer_exists _ _)
      (_, (_, record { next = a.0; is_above = a.1; is = record { value_is = refl; status_is = refl } }))

  pub next_up_exists : (x : Datum) → HasAnswer (IsNextUp format x)
  next_up_exists (nan b s) =
      match_case HasAnswer (is_signaling format s) (IsAnswer _ _) (IsAnswer _ _) (answer_exists _ _) (answer_exists _ _)
  next_up_exists (infinite b) =
      match_case HasAnswer b (IsAnswer _ _) (IsAnswer _ _) (answer_exists _ _) (answer_exists _ _)
  next_up_exists (finite b n) =
      match_case HasAnswer (eqb n 0) (IsAnswer _ _) (IsNextOfNumber format b n) (answer_exists _ _)
      (next_of_number_exists b n)

  pub next_down_exists : (x : Datum) → HasAnswer (IsNextDown format x)
  next_down_exists x =
      let r = next_up_exists (negated format.nonfinite x) in
      (negated format.nonfinite r.0, (r.1.0, record { up_of_negated = r.0; is_next_up = r.1.1; is = refl }))
