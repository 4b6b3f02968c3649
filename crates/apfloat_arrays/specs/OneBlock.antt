-- The conversion of a block of values is unique.
use Rattle.std.specs.Prelude.{◌≡◌, ℕ, ◌*◌, ◌<◌, List, length}
use Rattle.rustc_apfloat.specs.{declared.Round.Round, Lawful.Constants, Lawful.IsLawful}
use Rattle.apfloat_arrays.specs.{declared.counts.Counts.Counts, Blocks.IsBlock, Bytes.AreBytes, Values.IsConvertedBy}
use Rattle.small_formats.specs.declared.saturation.saturation.Overflow.{Overflow}

-- the bytes of `count` values of this width
pub record AreBytesOf (width count : ℕ) (bytes : List ℕ) : Type 0 where
  pub are_bytes : AreBytes bytes
  pub size : length bytes ≡ count * width

-- for a lawful target format with bits, two conversions of the same block have the same bytes and the same counts
abbrev pub IsBlockOnce : Type 0
IsBlockOnce =
    (overflow : Overflow) (c d : Constants) (mode : Round) (source target count : ℕ)
    (input output other : List ℕ) (counts others : Counts)
    → IsLawful d → d.precision < d.bits → AreBytesOf target count output → AreBytesOf target count other
    → IsBlock (IsConvertedBy overflow c d mode) source target count input output counts
    → IsBlock (IsConvertedBy overflow c d mode) source target count input other others
    → (output ≡ other) × (counts ≡ others)
