-- Sums of signed significands, counted in one small unit.
use Rattle.std.specs.Prelude.{◌≡◌, ℕ, ◌+◌, ◌*◌, ◌^◌, ◌⊎◌, Bool, true, false, ℤ, ◌-ℤ◌, ◌≤ℤ◌}
use Rattle.apfloat_model.specs.{declared.loss.Loss.Loss, arithmetic.Exact.up, arithmetic.Exact.signed}
use Rattle.apfloat_model.specs.rounding.{RoundingToOdd.IsRoundedToOdd, Standing.StandsFor}

-- significand * 2 ^ exponent with that sign, counted in units of 2 ^ low, for a `low` that is not above the exponent
abbrev pub counted : ℤ → Bool → ℤ → ℕ → ℤ
counted low negative exponent significand = signed negative (significand * 2 ^ up (exponent -ℤ low))

-- `exact`, counted in units of 2 ^ low, has that sign, and its magnitude is `significand` times 2 ^ exponent plus a
-- rest as the loss says.
pub record StandsForSigned (low exact : ℤ) (negative : Bool) (exponent : ℤ) (significand : ℕ) (loss : Loss) : Type 0
  where
    pub above : low ≤ℤ exponent
    pub amount : ℕ
    pub is : signed negative amount ≡ exact
    pub stands : StandsFor significand loss amount (2 ^ up (exponent -ℤ low))

-- `exact`, counted in units of 2 ^ low, has that sign, and its magnitude is rounded to odd to `significand` times
-- 2 ^ exponent.
pub record IsSignedToOdd (least : ℕ) (low exact : ℤ) (negative : Bool) (exponent : ℤ) (significand : ℕ) : Type 0
  where
    pub above : low ≤ℤ exponent
    pub amount : ℕ
    pub is : signed negative amount ≡ exact
    pub rounded : IsRoundedToOdd least significand amount (2 ^ up (exponent -ℤ low))

-- the greater of two integers
pub record IsGreater (z a b : ℤ) : Type 0 where
  pub one : (z ≡ a) ⊎ (z ≡ b)
  pub first : a ≤ℤ z
  pub second : b ≤ℤ z

-- `amount` is the difference of a and b; true if b is the greater
abbrev pub Balances : Bool → ℕ → ℕ → ℕ → Type 0
Balances false amount a b = a ≡ b + amount
Balances true amount a b = b ≡ a + amount

-- the difference of a and b, in units with a loss
pub record IsApart (a b : ℕ) (flipped : Bool) (significand : ℕ) (loss : Loss) (unit : ℕ) : Type 0 where
  pub amount : ℕ
  pub balances : Balances flipped amount a b
  pub stands : StandsFor significand loss amount unit

-- the difference of a and b, in units, rounded to odd
pub record IsApartToOdd (least a b : ℕ) (flipped : Bool) (significand unit : ℕ) : Type 0 where
  pub amount : ℕ
  pub balances : Balances flipped amount a b
  pub rounded : IsRoundedToOdd least significand amount unit
