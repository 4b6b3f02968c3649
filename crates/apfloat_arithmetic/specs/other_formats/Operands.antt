-- What an operand of the code stands for.
use Rattle.std.specs.Prelude.{◌≡◌, ◌⊎◌, ⊤, ℕ, ◌*◌, ◌^◌, ◌<◌, ◌≤◌, Bool, ℤ, pos, neg_ℤ, ◌+ℤ◌}
use Rattle.apfloat_model.specs.formats.Datum.{Datum}
use Rattle.apfloat_model.specs.rounding.{Bounds.IsWithin, Bounds.number_bound, RoundingToOdd.IsRoundedToOdd}
use Rattle.apfloat_model.specs.arithmetic.Exact.{up, down, signed, magnitude}
use Rattle.apfloat_words.specs.declared.{terms.Term.Term, u128_sum.U128Total.U128Total}
use Rattle.apfloat_rounding.specs.{declared.shape.Shape.Shape, Stored.IsStored, Stored.IsQuantaAt, Stored.datum_at}
use Rattle.apfloat_arithmetic.specs.declared.other_formats.operands.{NanOperand.NanOperand, Operand.Operand}
use Rattle.apfloat_arithmetic.specs.declared.other_formats.operands.Operand.TheVariants.{Number, Infinity, Nan}
use Rattle.apfloat_arithmetic.specs.other_formats.Extended.{Extended, number, infinity, not_number}

-- ---- operands

-- zero, or a significand of 125 digits, at an exponent that a number of a format may have
pub record IsTerm (x : Term) : Type 0 where
  pub fits : x.significand < 2 ^ 125
  pub full : (x.significand ≡ 0) ⊎ (2 ^ 124 ≤ x.significand)
  pub within : IsWithin number_bound x.exponent

abbrev pub IsOperand : Shape → Operand → Type 0
IsOperand into (Number x) = IsTerm x
IsOperand into (Infinity negative) = ⊤
IsOperand into (Nan x) = IsStored into x.value

-- the term is amount * 2 ^ -places
abbrev pub IsAmount : ℕ → ℕ → Term → Type 0
IsAmount amount places x = IsQuantaAt (neg_ℤ (pos places)) x.significand x.exponent amount

pub record IsTermOf (negative : Bool) (amount places : ℕ) (x : Term) : Type 0 where
  pub sign : x.negative ≡ negative
  pub is : IsAmount amount places x

pub record IsNanOperand (into : Shape) (signaling : Bool) (given : Datum) (x : NanOperand) : Type 0 where
  pub signaling_is : x.signaling ≡ signaling
  pub given_is : datum_at into x.value ≡ given

abbrev pub StandsFor : Shape → Extended → Operand → Type 0
StandsFor into (number b m s) (Number x) = IsTermOf b m s x
StandsFor into (number b m s) (Infinity negative) = ⊥
StandsFor into (number b m s) (Nan x) = ⊥
StandsFor into (infinity b) (Number x) = ⊥
StandsFor into (infinity b) (Infinity negative) = negative ≡ b
StandsFor into (infinity b) (Nan x) = ⊥
StandsFor into (not_number s d) (Number x) = ⊥
StandsFor into (not_number s d) (Infinity negative) = ⊥
StandsFor into (not_number s d) (Nan x) = IsNanOperand into s d x

-- ---- totals

-- the total is exact * 2 ^ -places, rounded to odd
pub record IsTotalOf (exact : ℤ) (places : ℕ) (total : U128Total) : Type 0 where
  pub rounded : IsRoundedToOdd (2 ^ 126) total.significand (magnitude exact * 2 ^ down (total.exponent +ℤ pos places))
      (1 * 2 ^ up (total.exponent +ℤ pos places))
  pub is : signed total.negative (magnitude exact) ≡ exact
