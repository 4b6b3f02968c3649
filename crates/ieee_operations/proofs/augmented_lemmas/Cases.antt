-- Cases of operands, and what the law of a format says of its ranges.
use Rattle.std.proofs.Common.{◌≡◌, ℕ, ◌*◌, ◌^◌, ◌<◌, ◌≤◌, Bool, true, false, refl, subst}
use Rattle.std.proofs.{Common.arith, lemmas.Bool.false≢true, lemmas.Int.ints}
use Rattle.std.specs.Prelude.{ℤ, pos, ◌+ℤ◌, ◌-ℤ◌, unsigned_abs}
use Rattle.apfloat_model.specs.{declared.kinds.Round.TheVariants.NearestTiesToEven, formats.Format.Format}
use Rattle.apfloat_model.specs.formats.Datum.{Datum, finite, infinite, nan}
use Rattle.apfloat_model.specs.formats.Lawful.{Constants, IsLawful, format_with}
use Rattle.apfloat_model.specs.{rounding.Negation.negated, arithmetic.Exact.product_sign, arithmetic.Exact.signed}
use Rattle.apfloat_model.specs.arithmetic.{Products.IsProduct, Sums.IsSum, Sums.IsDifference, Sums.zero_sum_sign}
use Rattle.apfloat_model.specs.order.{Classes.is_finite, Classes.is_negative, Order.number}
use Rattle.apfloat_model.proofs.arithmetic.Signs.{swapped_sum}
use Rattle.apfloat_model.proofs.formats.LawfulRanges.{ranges_of as lawful_ranges}
use Rattle.ieee_operations.specs.augmented.Augmented.{AreBoth, IsAugmented, IsAugmentedSum, IsAugmentedDifference}
use Rattle.ieee_operations.specs.augmented.Augmented.{IsAugmentedProduct}

-- ---- the augmented operations, by their operands

each_sum : (Holds : (Datum → Datum → ℕ → Type 0) → Type 0) (f : Format)
    → ((of_zero : Bool) (exact : ℤ) (parts : ℕ) → Holds (IsAugmented f of_zero exact parts))
    → ((x y : Datum) → Holds (AreBoth (IsSum f NearestTiesToEven x y))) → (x y : Datum) → Holds (IsAugmentedSum f x y)
each_sum Holds f numbers others (finite b m) (finite c n) = numbers _ _ _
each_sum Holds f numbers others (finite b m) (infinite c) = others (finite b m) (infinite c)
each_sum Holds f numbers others (finite b m) (nan c n) = others (finite b m) (nan c n)
each_sum Holds f numbers others (infinite b) y = others (infinite b) y
each_sum Holds f numbers others (nan b m) y = others (nan b m) y

each_difference : (Holds : (Datum → Datum → ℕ → Type 0) → Type 0) (f : Format)
    → ((x y : Datum) → Holds (IsAugmentedSum f x y))
    → ((x y : Datum) → Holds (AreBoth (IsDifference f NearestTiesToEven x y)))
    → (x y : Datum) → Holds (IsAugmentedDifference f x y)
each_difference Holds f sums others (finite b m) (finite c n) = sums (finite b m) (negated f.nonfinite (finite c n))
each_difference Holds f sums others (finite b m) (infinite c) = others (finite b m) (infinite c)
each_difference Holds f sums others (finite b m) (nan c n) = others (finite b m) (nan c n)
each_difference Holds f sums others (infinite b) y = others (infinite b) y
each_difference Holds f sums others (nan b m) y = others (nan b m) y

pub each_product : (P : Datum → Datum → (Datum → Datum → ℕ → Type 0) → Type 0) (f : Format)
    → ((b c : Bool) (m n : ℕ) → P (finite b m) (finite c n)
    (IsAugmented f (product_sign b c) (signed (product_sign b c) (m * n)) (2 ^ f.scale)))
    → ((x y : Datum) → P x y (AreBoth (IsProduct f NearestTiesToEven x y)))
    → (x y : Datum) → P x y (IsAugmentedProduct f x y)
each_product P f numbers others (finite b m) (finite c n) = numbers b c m n
each_product P f numbers others (finite b m) (infinite c) = others (finite b m) (infinite c)
each_product P f numbers others (finite b m) (nan c n) = others (finite b m) (nan c n)
each_product P f numbers others (infinite b) y = others (infinite b) y
each_product P f numbers others (nan b m) y = others (nan b m) y

pub record OfEachOperation (Holds : (Datum → Datum → ℕ → Type 0) → Type 0) (f : Format) : Type 0 where
  pub sum : (x y : Datum) → Holds (IsAugmentedSum f x y)
  pub difference : (x y : Datum) → Holds (IsAugmentedDifference f x y)
  pub product : (x y : Datum) → Holds (IsAugmentedProduct f x y)

-- What holds of each augmented result of numbers, and of two results alike, holds of each operation.
pub of_each : (Holds : (Datum → Datum → ℕ → Type 0) → Type 0) (f : Format)
    → ((of_zero : Bool) (exact : ℤ) (parts : ℕ) → Holds (IsAugmented f of_zero exact parts))
    → ((x y : Datum) → Holds (AreBoth (IsSum f NearestTiesToEven x y)))
    → ((x y : Datum) → Holds (AreBoth (IsDifference f NearestTiesToEven x y)))
    → ((x y : Datum) → Holds (AreBoth (IsProduct f NearestTiesToEven x y))) → OfEachOperation Holds f
of_each Holds f numbers sums differences products =
    let sum = each_sum Holds f numbers sums in
    record {
      sum = sum;
      difference = each_difference Holds f sum differences;
      product = each_product (λ x y Says. Holds Says) f (λ b c m n. numbers _ _ _) products;
    }

-- ---- sums of finite data

pub sum_of_numbers : (f : Format) (x y head tail : Datum) (status : ℕ) → is_finite x ≡ true → is_finite y ≡ true
    → IsAugmented f (zero_sum_sign NearestTiesToEven (is_negative x) (is_negative y)) (number x +ℤ number y) 1 head
    tail status → IsAugmentedSum f x y head tail status
sum_of_numbers f (finite b m) (finite c n) head tail status p q h = h
sum_of_numbers f (finite b m) (infinite c) head tail status p q h = absurd (false≢true q)
sum_of_numbers f (finite b m) (nan c n) head tail status p q h = absurd (false≢true q)
sum_of_numbers f (infinite b) y head tail status p q h = absurd (false≢true p)
sum_of_numbers f (nan b m) y head tail status p q h = absurd (false≢true p)

sign_swapped : (b c : Bool) → zero_sum_sign NearestTiesToEven c b ≡ zero_sum_sign NearestTiesToEven b c
sign_swapped true true = refl
sign_swapped true false = refl
sign_swapped false true = refl
sign_swapped false false = refl

-- the operands of a sum can be swapped
pub sum_swapped : (f : Format) (x y head tail : Datum) (status : ℕ) → is_finite x ≡ true → is_finite y ≡ true
    → IsAugmentedSum f y x head tail status → IsAugmentedSum f x y head tail status
sum_swapped f (finite b m) (finite c n) head tail status p q h =
    subst (λ (z : ℤ). IsAugmented f (zero_sum_sign NearestTiesToEven b c) z 1 head tail status)
    (swapped_sum (signed c n) (signed b m))
    (subst (λ (s : Bool). IsAugmented f s (signed c n +ℤ signed b m) 1 head tail status) (sign_swapped b c) h)
sum_swapped f (finite b m) (infinite c) head tail status p q h = absurd (false≢true q)
sum_swapped f (finite b m) (nan c n) head tail status p q h = absurd (false≢true q)
sum_swapped f (infinite b) y head tail status p q h = absurd (false≢true p)
sum_swapped f (nan b m) y head tail status p q h = absurd (false≢true p)

-- ---- ranges

pub record HasCaseRanges (c : Constants) : Type 0 where
  pub precision : 3 ≤ c.precision
  pub scale : (format_with c).scale < (format_with c).span
  pub wide : c.precision < (format_with c).span
  pub span : 1 ≤ (format_with c).span
  pub span_short : (format_with c).span ≤ 2 ^ 21
  pub span_is : c.max_exp -ℤ c.min_exp ≡ pos ((format_with c).span)

pub ranges_of : (c : Constants) → IsLawful c → HasCaseRanges c
ranges_of c law =
    let p = law.parameters in
    let r = lawful_ranges c law in
    let span : c.max_exp -ℤ c.min_exp ≡ pos (unsigned_abs (c.max_exp -ℤ c.min_exp)) =
    omega (arith, ints, p.precision_low, p.max_exp_low, p.min_exp_high) in
    record {
      precision = r.precision_low;
      scale = r.scale;
      wide = omega (arith, ints, span, p.max_exp_low, p.min_exp_high);
      span = omega (arith, r.scale);
      span_short = r.span;
      span_is = span;
    }
