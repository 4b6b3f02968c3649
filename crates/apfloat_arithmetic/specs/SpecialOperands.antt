-- Operations with a special operand, and the result of each of them (IEEE 754-2019 6.1 to 6.3, 7.2, 7.3).
use Rattle.std.specs.Prelude.{◌≡◌, ◌⊎◌, ℕ, ◌<◌, true}
use Rattle.apfloat_model.specs.declared.kinds.Category.TheVariants.{Infinity, NaN, Normal}
use Rattle.apfloat_model.specs.{declared.kinds.Round.Round, formats.Datum.Datum}
use Rattle.apfloat_model.specs.arithmetic.{Sums.IsSum, Products.IsProduct, Quotients.IsQuotient, FusedSums.IsFusedSum}
use Rattle.apfloat_model.specs.arithmetic.{Roots.IsRoot, Remainders.IsRemainder}
use Rattle.apfloat_rounding.specs.declared.{shape.Shape.Shape, unpacked.Unpacked.Unpacked}
use Rattle.apfloat_rounding.specs.{Shapes.format_at, Stored.IsStored, Stored.datum_at}
use Rattle.apfloat_arithmetic.specs.declared.specials.Operation.{Operation, TheVariants.Sum, TheVariants.Product}
use Rattle.apfloat_arithmetic.specs.declared.specials.Operation.TheVariants.{Quotient, FusedSum, Root, Remainder}

-- two stored values, not both nonzero numbers
pub record AreSpecial (s : Shape) (x y : Unpacked) : Type 0 where
  pub left : IsStored s x
  pub right : IsStored s y
  pub special : x.category ≡ Normal → y.category ≡ Normal → ⊥

-- three stored values, not all nonzero numbers
pub record AreSpecialTerms (s : Shape) (x y z : Unpacked) : Type 0 where
  pub left : IsStored s x
  pub right : IsStored s y
  pub addend : IsStored s z
  pub special : x.category ≡ Normal → y.category ≡ Normal → z.category ≡ Normal → ⊥

-- three stored values, with an infinity or a NaN among the first two
pub record HasSpecialFactor (s : Shape) (x y z : Unpacked) : Type 0 where
  pub left : IsStored s x
  pub right : IsStored s y
  pub addend : IsStored s z
  pub special : ((x.category ≡ Infinity) ⊎ (x.category ≡ NaN))
      ⊎ ((y.category ≡ Infinity) ⊎ (y.category ≡ NaN))

-- a stored value that is not a positive number
pub record IsSpecialRadicand (s : Shape) (x : Unpacked) : Type 0 where
  pub stored : IsStored s x
  pub special : x.category ≡ Normal → x.negative ≡ true

abbrev pub HasSpecials : Shape → Operation → Type 0
HasSpecials s (Sum x y mode) = AreSpecial s x y
HasSpecials s (Product x y) = AreSpecial s x y
HasSpecials s (Quotient x y) = AreSpecial s x y
HasSpecials s (FusedSum x y z mode) = AreSpecialTerms s x y z
HasSpecials s (Root x) = IsSpecialRadicand s x
HasSpecials s (Remainder x y) = AreSpecial s x y

-- For a product, a quotient and a root the rounding mode does not matter, nor does the rounded quotient of a remainder.
abbrev pub IsResult : Shape → Operation → Datum → ℕ → Type 0
IsResult s (Sum x y mode) value status = IsSum (format_at s) mode (datum_at s x) (datum_at s y) value status
IsResult s (Product x y) value status =
    (mode : Round) → IsProduct (format_at s) mode (datum_at s x) (datum_at s y) value status
IsResult s (Quotient x y) value status =
    (mode : Round) → IsQuotient (format_at s) mode (datum_at s x) (datum_at s y) value status
IsResult s (FusedSum x y z mode) value status =
    IsFusedSum (format_at s) mode (datum_at s x) (datum_at s y) (datum_at s z) value status
IsResult s (Root x) value status = (mode : Round) → IsRoot (format_at s) mode (datum_at s x) value status
IsResult s (Remainder x y) value status =
    (quotient : ℕ → ℕ → ℕ) → ((n : ℕ) → 0 < n → quotient 0 n ≡ 0)
    → IsRemainder (format_at s) quotient (datum_at s x) (datum_at s y) value status
