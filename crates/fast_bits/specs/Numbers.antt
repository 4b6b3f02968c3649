-- Normal numbers and their encodings.
use Rattle.std.specs.Prelude.{◌≡◌, ℕ, ◌-◌, ◌*◌, ◌^◌, ◌<◌, ◌≤◌, ◌⊎◌, ◌≤ℤ◌, pos, neg_ℤ, Bool, false, not, if◌then◌else◌}
use Rattle.apfloat_model.specs.formats.{Datum.finite, Lawful.Constants}
use Rattle.apfloat_model.specs.rounding.{Bounds.exponent_bound, Standing.up, Standing.down}
use Rattle.apfloat_words.specs.declared.terms.Term.{Term}
use Rattle.fast_bits.specs.{declared.numbers.Number.Number, declared.numbers.Ordered.Ordered, Encoded.value_in}

-- a format of at most 64 bits with an implied integer bit, and of at most 59 digits
pub record FitsWord (c : Constants) : Type 0 where
  pub implied : c.explicit_integer_bit ≡ false
  pub precise : c.precision ≤ 59
  pub bits : c.bits ≤ 64

-- how many quanta a number has
abbrev pub quanta_of : Number → ℕ
quanta_of x = x.significand * 2 ^ x.place

-- a number whose significand has all digits of the format
pub record IsFullNumber (c : Constants) (x : Number) : Type 0 where
  pub full : 2 ^ (c.precision - 1) ≤ x.significand
  pub fits : x.significand < 2 ^ c.precision
  pub near : x.place < 2 ^ 22

-- the bits encode the number
pub record IsNumberOf (c : Constants) (bits : ℕ) (x : Number) : Type 0 where
  pub is_full : IsFullNumber c x
  pub read : value_in c bits ≡ finite x.negative (quanta_of x)

-- the number, with the opposite sign if it is asked for
abbrev pub opposite_if : Bool → Number → Number
opposite_if changed x =
    record { negative = if changed then not x.negative else x.negative; place = x.place; significand = x.significand }

-- the first of two numbers does not have the smaller magnitude
pub record IsOrdered (o : Ordered) : Type 0 where
  pub places : o.low.place ≤ o.high.place
  pub significands : o.low.place ≡ o.high.place → o.low.significand ≤ o.high.significand

-- The bits x and y encode two numbers. They are in order of their magnitudes once the sign of the second is changed, if
-- that is asked for.
pub record AreOrderedNumbers (c : Constants) (x y : ℕ) (changed : Bool) (o : Ordered) : Type 0 where
  pub left : Number
  pub right : Number
  pub of_left : IsNumberOf c x left
  pub of_right : IsNumberOf c y right
  pub same : ((o.high ≡ left) × (o.low ≡ opposite_if changed right))
      ⊎ ((o.high ≡ opposite_if changed right) × (o.low ≡ left))
  pub is_ordered : IsOrdered o

-- an amount with that sign, as a significand with all of so many digits at an exponent
pub record IsTermOf (digits : ℕ) (sign : Bool) (amount : ℕ) (term : Term) : Type 0 where
  pub negative : term.negative ≡ sign
  pub above : neg_ℤ (pos 1) ≤ℤ term.exponent
  pub below : term.exponent ≤ℤ pos exponent_bound
  pub fits : term.significand < 2 ^ digits
  pub full : 2 ^ (digits - 1) ≤ term.significand
  pub counted : term.significand * 2 ^ up term.exponent ≡ amount * 2 ^ down term.exponent
