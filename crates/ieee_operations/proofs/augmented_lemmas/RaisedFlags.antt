-- OVERFLOW and UNDERFLOW are raised only together with INEXACT, by augmented sums, differences and products.
use Rattle.std.proofs.Common.{ℕ, ◌+◌, ◌*◌, Bool, true, false, eqb, ltb, sym, subst, lit<}
use Rattle.std.specs.{Prelude.ℤ, Bool.MatchBool}
use Rattle.apfloat_model.specs.{declared.kinds.Round.TheVariants.NearestTiesToEven, formats.Format.Format}
use Rattle.apfloat_model.specs.{formats.Format.largest, formats.Datum.Datum, rounding.RaisedFlags.FlagsGoTogether}
use Rattle.apfloat_model.specs.rounding.Rounding.{overflow_bit, underflow_bit, inexact_bit}
use Rattle.apfloat_model.specs.arithmetic.Exact.{magnitude, sign_of}
use Rattle.apfloat_model.proofs.general.Choices.{if_case}
use Rattle.apfloat_model.proofs.rounding.FlagsTogether.{Together, ok_together, sum_together, difference_together}
use Rattle.apfloat_model.proofs.rounding.FlagsTogether.{product_together, inexact_together}
use Rattle.ieee_operations.specs.augmented.Augmented.{left_of, IsPastLargest, IsWithTail, IsAugmented, AreBoth}
use Rattle.ieee_operations.proofs.augmented_lemmas.Cases.{OfEachOperation, of_each}

past_or_not : (f : Format) (negative : Bool) (exact : ℤ) (parts pick : ℕ) (head tail : Datum) (status : ℕ) (test : Bool)
    → MatchBool test (IsPastLargest f negative head tail status)
    (IsWithTail f negative exact parts pick head tail status) → FlagsGoTogether status
past_or_not f negative exact parts pick head tail status true x =
    subst FlagsGoTogether (sym x.status_is) (inexact_together (overflow_bit + inexact_bit) (lit< tt))
past_or_not f negative exact parts pick head tail status false x =
    subst FlagsGoTogether (sym x.status_is)
    (if_case FlagsGoTogether (eqb (x.quanta * parts) (magnitude (left_of exact parts negative pick)))
    (λ whole. ok_together) (λ lost. inexact_together (underflow_bit + inexact_bit) (lit< tt)))

augmented_together : (f : Format) (of_zero : Bool) (exact : ℤ) (parts : ℕ) (head tail : Datum) (status : ℕ)
    → IsAugmented f of_zero exact parts head tail status → FlagsGoTogether status
augmented_together f of_zero exact parts head tail status x =
    past_or_not f (sign_of of_zero exact) exact parts x.pick head tail status (ltb (largest f) x.pick) x.is

both_together : (Says : Datum → ℕ → Type 0) → Together Says → (head tail : Datum) (status : ℕ)
    → AreBoth Says head tail status → FlagsGoTogether status
both_together Says together head tail status x = together head status x.is

abbrev pub GoTogether : (Datum → Datum → ℕ → Type 0) → Type 0
GoTogether Says = (head tail : Datum) (status : ℕ) → Says head tail status → FlagsGoTogether status

pub each_together : (f : Format) → OfEachOperation GoTogether f
each_together f =
    of_each GoTogether f (augmented_together f) (λ x y. both_together _ (sum_together f NearestTiesToEven x y))
    (λ x y. both_together _ (difference_together f NearestTiesToEven x y))
    (λ x y. both_together _ (product_together f NearestTiesToEven x y))
