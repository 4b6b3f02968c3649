-- Exact sums of any number of terms, rounded once (IEEE 754-2019 9.4): of values, products, squares and magnitudes.
use Rattle.std.specs.Prelude.{ℕ, ◌+◌, ◌*◌, ◌/◌, ◌^◌, ◌<◌, ◌≤◌, eqb, Bool, true, false, not, ◌&&◌, ◌||◌, ℤ, pos, ◌+ℤ◌}
use Rattle.std.specs.Prelude.{List, [], ◌∷◌, Option, Some, None, if◌then◌else◌}
use Rattle.apfloat_model.specs.{declared.kinds.Round.Round, formats.Format.Format, arithmetic.Exact.signed}
use Rattle.apfloat_model.specs.{arithmetic.Products.product, order.Classes.is_negative}
use Rattle.apfloat_model.specs.formats.{Datum.Datum, Datum.finite, Datum.infinite, Datum.nan, Nan.invalid_if}
use Rattle.apfloat_model.specs.rounding.{Negation.negated, Rounding.ok_bits, Outcome.Outcome}
use Rattle.apfloat_model.specs.rounding.Outcome.{settled, rounded, totalled, rooted, exactly, invalid, of_nan, Yields}

-- ---- terms: outcomes before they are rounded

-- A value as a term, which is its product with 1. Like those of products, its parts are 2 ^ scale.
abbrev pub value_term : Format → Datum → Outcome
value_term f (nan b s) = of_nan f b s
value_term f (infinite b) = exactly (infinite b)
value_term f (finite b m) = rounded b (m * 2 ^ f.scale) (2 ^ f.scale)

-- the value without its sign
abbrev pub magnitude_of : Format → Datum → Datum
magnitude_of f x = if is_negative x then negated f.nonfinite x else x

abbrev pub value_terms : Format → List Datum → List Outcome
value_terms f [] = []
value_terms f (x ∷ xs) = value_term f x ∷ value_terms f xs

abbrev pub magnitude_terms : Format → List Datum → List Outcome
magnitude_terms f [] = []
magnitude_terms f (x ∷ xs) = value_term f (magnitude_of f x) ∷ magnitude_terms f xs

-- the products of the elements of two lists of the same length
abbrev pub product_terms : Format → List Datum → List Datum → List Outcome
product_terms f [] ys = []
product_terms f (x ∷ xs) [] = []
product_terms f (x ∷ xs) (y ∷ ys) = product f x y ∷ product_terms f xs ys

-- ---- what decides the result

pub record Tally : Type 0 where
  -- how many terms there are
  pub terms : ℕ
  -- the first NaN among the terms, and whether a term that is a NaN raises INVALID_OP
  pub first_nan : Option Datum
  pub invalid : Bool
  -- whether a term is an infinity of that sign
  pub positive_infinity : Bool
  pub negative_infinity : Bool
  -- whether a finite term has that sign
  pub positive : Bool
  pub negative : Bool
  -- the sum of the finite terms, in units of 2 ^ -scale quanta
  pub exact : ℤ

abbrev pub no_terms : Tally
no_terms =
    record {
      terms = 0;
      first_nan = None;
      invalid = false;
      positive_infinity = false;
      negative_infinity = false;
      positive = false;
      negative = false;
      exact = pos 0;
    }

abbrev pub number_tally : Bool → ℕ → Tally
number_tally negative amount =
    record no_terms { terms = 1; positive = not negative; negative = negative; exact = signed negative amount }

abbrev pub special_tally : Datum → ℕ → Tally
special_tally (nan b s) flags =
    record no_terms { terms = 1; first_nan = Some (nan b s); invalid = not (eqb flags ok_bits) }
special_tally (infinite b) flags = record no_terms { terms = 1; positive_infinity = not b; negative_infinity = b }
special_tally (finite b m) flags = no_terms

abbrev pub tally_of : Outcome → Tally
tally_of (settled datum flags) = special_tally datum flags
tally_of (rounded negative amount parts) = number_tally negative amount
-- no term is one of these
tally_of (totalled left right exact parts) = no_terms
tally_of (rooted square parts) = no_terms

abbrev pub first_of : Option Datum → Option Datum → Option Datum
first_of (Some x) later = Some x
first_of None later = later

-- of the terms of both, `later` after `earlier`
abbrev pub joined : Tally → Tally → Tally
joined earlier later =
    record {
      terms = earlier.terms + later.terms;
      first_nan = first_of earlier.first_nan later.first_nan;
      invalid = earlier.invalid || later.invalid;
      positive_infinity = earlier.positive_infinity || later.positive_infinity;
      negative_infinity = earlier.negative_infinity || later.negative_infinity;
      positive = earlier.positive || later.positive;
      negative = earlier.negative || later.negative;
      exact = earlier.exact +ℤ later.exact;
    }

abbrev pub tally : List Outcome → Tally
tally [] = no_terms
tally (t ∷ ts) = joined (tally_of t) (tally ts)

-- ---- the result

abbrev pub infinite_total : Format → Bool → Bool → Outcome → Outcome
infinite_total f true true number = invalid f
infinite_total f true false number = exactly (infinite false)
infinite_total f false true number = exactly (infinite true)
infinite_total f false false number = number

abbrev pub total_after : Format → Option Datum → Tally → Outcome
total_after f (Some x) t = settled x (invalid_if t.invalid)
total_after f None t =
    infinite_total f t.positive_infinity t.negative_infinity
    (totalled t.negative (t.negative && not t.positive) t.exact (2 ^ f.scale))

-- The first NaN; of infinities of both signs an invalid operation; an infinity; or the exact sum. An exact zero is +0,
-- or -0 toward negative, but a sum of zeros of one sign keeps it (6.3); without terms it is +0.
abbrev pub total : Format → Tally → Outcome
total f t = total_after f t.first_nan t

abbrev pub IsTotal : Format → Round → Tally → Datum → ℕ → Type 0
IsTotal f mode t value status = Yields f mode (total f t) value status

abbrev pub IsSumOf : Format → Round → List Datum → Datum → ℕ → Type 0
IsSumOf f mode xs value status = IsTotal f mode (tally (value_terms f xs)) value status

abbrev pub IsSumOfMagnitudes : Format → Round → List Datum → Datum → ℕ → Type 0
IsSumOfMagnitudes f mode xs value status = IsTotal f mode (tally (magnitude_terms f xs)) value status

abbrev pub IsDot : Format → Round → List Datum → List Datum → Datum → ℕ → Type 0
IsDot f mode xs ys value status = IsTotal f mode (tally (product_terms f xs ys)) value status

abbrev pub IsSumOfSquares : Format → Round → List Datum → Datum → ℕ → Type 0
IsSumOfSquares f mode xs value status = IsDot f mode xs xs value status

-- ---- the formats that have these calls

-- So many words hold 2 ^ 64 products of values whose significands take whole words.
pub record IsSummable (words : ℕ) (f : Format) : Type 0 where
  pub room : 2 * (64 * ((f.precision + 63) / 64) + f.span) + 64 ≤ 64 * words
  pub few : words < 2 ^ 16

-- 1,029 words do: it is so for every built-in format
abbrev pub IsReducible : Format → Type 0
IsReducible f = IsSummable 1029 f
