-- The greatest magnitude of values, by their bits.
use Rattle.std.specs.Prelude.{◌≡◌, ℕ, ◌-◌, ◌*◌, ◌^◌, ◌<◌, ◌≤◌, true, false, List, MatchOption, Option}
use Rattle.rustc_apfloat.specs.{Datum.Datum, Datum.finite, Format.Format, Lawful.Constants}
use Rattle.apfloat_model.specs.formats.Members.{IsMember}
use Rattle.small_formats.specs.{Codes.point, blocks.Magnitudes.are_finite, blocks.Magnitudes.greatest_magnitude}

-- the bits of +infinity, if the integer bit is implied
abbrev pub special_bits : Constants → ℕ
special_bits c = (2 ^ c.exp_bits - 1) * 2 ^ (c.precision - 1)

-- the greatest bits without a sign
pub record AreAtMost (c : Constants) (xs : List Datum) (bits : ℕ) : Type 0 where
  pub finite : bits < special_bits c
      → (are_finite xs ≡ true) × (greatest_magnitude xs ≡ point c.precision bits)
  pub other : special_bits c ≤ bits → are_finite xs ≡ false

-- the greatest magnitude, if all values are finite
abbrev pub IsGreatest : Format → List Datum → Option Datum → Type 0
IsGreatest f xs result =
    MatchOption result (are_finite xs ≡ false)
    (λ greatest. (are_finite xs ≡ true) × (greatest ≡ finite false (greatest_magnitude xs)) × IsMember f greatest)
