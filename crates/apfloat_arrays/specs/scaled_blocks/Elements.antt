-- The elements of a block, from bits to bits.
use Rattle.std.specs.Prelude.{◌≡◌, ℕ, ◌+◌, ◌-◌, ◌*◌, ◌^◌, ◌<◌, ◌≤◌, true, List, length}
use Rattle.rustc_apfloat.specs.Lawful.{Constants, format_with}
use Rattle.small_formats.specs.Scales.{largest_code}
use Rattle.small_formats.specs.Storage.{StorageConstants, format_with as stored_format}
use Rattle.small_formats.specs.blocks.{Magnitudes.are_finite, Places.AreCounted}
use Rattle.small_formats.specs.blocks.Elements.{IsQuotientBy, element_datum, format_of_element, width}
use Rattle.small_formats.specs.declared.blocks.{Counts.Counts, ElementFormat.ElementFormat}
use Rattle.apfloat_arrays.specs.{declared.scaled_blocks.elements.Quotients.Quotients, scaled_blocks.Values.values_in}
use Rattle.apfloat_arrays.specs.stored.NumberCodes.{HasCodes}

-- so many values stand there, and all of them are finite
pub record AreQuotable (c : Constants) (q : Quotients) (count : ℕ) : Type 0 where
  pub read : c.precision < c.bits
  pub least : 1 ≤ q.width
  pub few : q.width ≤ 16
  pub within : (q.first + count) * q.width ≤ length q.values.now
  pub scale : q.scale ≤ largest_code
  pub finite : are_finite (values_in c q.width q.values.now q.first count) ≡ true

-- each is divided by the scale, and rounded once
abbrev pub AreElements : Constants → Quotients → ℕ → List ℕ → Counts → Type 0
AreElements c q count codes counts =
    AreCounted (IsQuotientBy q.element (format_with c) q.round (2 ^ q.scale) (2 ^ 127))
    (values_in c q.width q.values.now q.first count) codes counts

-- the elements have the digits and exponents of s, and codes of the format up to the largest number
pub record IsCodedIn (element : ElementFormat) (s : StorageConstants) (most : ℕ) : Type 0 where
  pub few : most < 2 ^ (s.bits - 1)
  pub width : width element ≡ s.bits
  pub scale : (format_of_element element).scale ≡ (stored_format s).scale
  pub codes : HasCodes (format_of_element element) (element_datum element) s most
