-- Elements times a scale, from code to bits.
use Rattle.std.specs.Prelude.{◌≡◌, ℕ, ◌+◌, ◌*◌, ◌^◌, ◌<◌, Bool}
use Rattle.rustc_apfloat.specs.{declared.Round.Round, Datum.finite, Lawful.Constants, Lawful.format_with}
use Rattle.rustc_apfloat.specs.{Lawful.layout_with, Layout.IsEncodedBy}
use Rattle.small_formats.specs.{Codes.point, Storage.StorageConstants, Storage.format_with as stored_format}
use Rattle.apfloat_arrays.specs.declared.scaled_blocks.formats.BlockFormat.{BlockFormat}
use Rattle.apfloat_arrays.specs.declared.scaled_blocks.formats.BlockFormat.TheVariants.{Mx, Nvfp4}
use Rattle.apfloat_arrays.specs.scaled_blocks.{Elements.IsCodedIn, Formats.IsScaledIn, Greatest.special_bits}

-- the elements have the digits and exponents of s, and codes of the format up to the largest number
abbrev pub IsCodedAs : BlockFormat → StorageConstants → ℕ → Type 0
IsCodedAs (Mx element) s most = IsCodedIn element s most
IsCodedAs (Nvfp4 tensor) s most = ⊥

-- The bits are those of the product of the element and its scale, which is a number that each mode keeps.
pub record IsExactCode (format : BlockFormat) (d : Constants) (scale code bits : ℕ) : Type 0 where
  pub negative : Bool
  pub quanta : ℕ
  pub is_scaled : (mode : Round) → IsScaledIn format (format_with d) mode scale code (finite negative quanta) 0
  pub is_encoded : IsEncodedBy (format_with d) (layout_with d) bits (finite negative quanta)

-- the number of s with that index, times the scale, is that of d with the index `bits`
pub record IsProductAt (d : Constants) (s : StorageConstants) (scale index bits : ℕ) : Type 0 where
  pub below : bits < special_bits d
  pub exact : point s.precision index * 2 ^ scale * 2 ^ (format_with d).scale
      ≡ point d.precision bits * 2 ^ ((stored_format s).scale + 127)

-- so far above the least exponent of d is the product of the scale and a number of s whose first digit has that place
pub record IsExponent (d : Constants) (s : StorageConstants) (scale place exponent : ℕ) : Type 0 where
  pub within : exponent + 2 < 2 ^ d.exp_bits
  pub places : place + scale + (format_with d).scale ≡ d.precision + exponent + ((stored_format s).scale + 127)
