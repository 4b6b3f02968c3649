-- The scale of a block (OCP Microscaling Formats 1.0, 6.3): the greatest exponent of the block less that of the largest
-- number of the element format, clamped to the scales that there are.
use Rattle.std.specs.Prelude.{◌≡◌, ◌⊎◌, ℕ, ◌+◌, ◌-◌, ◌*◌, ◌^◌, ◌<◌, ◌≤◌, Bool}
use Rattle.std.specs.Prelude.{true, false, min, eqb, leb, ltb, ℤ, pos, ◌+ℤ◌, ◌-ℤ◌}
use Rattle.std.specs.Bool.{MatchBool}
use Rattle.apfloat_model.specs.arithmetic.{Exact.up, Exponents.IsLogarithm}
use Rattle.apfloat_model.specs.formats.Format.{Format, largest}
use Rattle.small_formats.specs.Scales.{largest_code, scale_format}
use Rattle.small_formats.specs.declared.blocks.{elements.ElementFormat.ElementFormat, mx_scales.ScaleRule.ScaleRule}
use Rattle.small_formats.specs.declared.blocks.mx_scales.ScaleRule.TheVariants.{Floor, Ceil, Even}
use Rattle.small_formats.specs.blocks.Elements.{format_of_element, max_exp}

-- the code of the scale nearest to 2 to the power of an exponent
abbrev pub clamped_code : ℤ → ℕ
clamped_code exponent = min (up (exponent +ℤ pos scale_format.scale)) largest_code

pub record IsScaleOfNumber (element : ElementFormat) (f : Format) (greatest code : ℕ) : Type 0 where
  pub exponent : ℤ
  pub is_logarithm : IsLogarithm f greatest exponent
  pub code_is : code ≡ clamped_code (exponent -ℤ pos (max_exp element))

-- of a block whose greatest magnitude is that many quanta of f; that of zeros is the least one
abbrev pub IsBlockScale : ElementFormat → Format → ℕ → ℕ → Type 0
IsBlockScale element f greatest code = MatchBool (eqb greatest 0) (code ≡ 0) (IsScaleOfNumber element f greatest code)

-- ---- other rules: the least scale by which the greatest magnitude is not past a bound, or the largest one

pub record IsLeastScale (is_past : ℕ → Bool) (code : ℕ) : Type 0 where
  pub within : code ≤ largest_code
  pub enough : (code ≡ largest_code) ⊎ (is_past code ≡ false)
  pub least : (other : ℕ) → other < code → is_past other ≡ true

-- whether a magnitude of so many quanta of f, over the scale with that code, is past the largest element
abbrev pub clips : ElementFormat → Format → ℕ → ℕ → Bool
clips element f magnitude code =
    let g = format_of_element element in
    ltb (largest g * (2 ^ f.scale * 2 ^ code)) (magnitude * 2 ^ g.scale * 2 ^ scale_format.scale)

-- the quanta of 2 to the power of `max_exp`, and the middle between twice that and the last number below it, of as many
-- digits as an element, times 2 ^ (precision + 1)
abbrev pub highest_power : ElementFormat → ℕ
highest_power element = 2 ^ ((format_of_element element).scale + max_exp element)

abbrev pub last_middle : ElementFormat → ℕ
last_middle element = (2 ^ ((format_of_element element).precision + 1) - 1) * (2 * highest_power element)

-- Whether it becomes a power of two above the largest element, or more, when it is rounded to the digits of an element,
-- to nearest, ties to even: the middle does, since the last digit of the number below is odd.
abbrev pub outgrows : ElementFormat → Format → ℕ → ℕ → Bool
outgrows element f magnitude code =
    let g = format_of_element element in
    leb (last_middle element * (2 ^ f.scale * 2 ^ code))
    (magnitude * 2 ^ g.scale * 2 ^ scale_format.scale * 2 ^ (g.precision + 1))

abbrev pub IsScaleBy : ScaleRule → ElementFormat → Format → ℕ → ℕ → Type 0
IsScaleBy Floor element f greatest code = IsBlockScale element f greatest code
IsScaleBy Ceil element f greatest code = IsLeastScale (clips element f greatest) code
IsScaleBy Even element f greatest code = IsLeastScale (outgrows element f greatest) code

-- a magnitude over the next scale is below 2 to the power of `max_exp`
abbrev pub IsWithinNext : ElementFormat → Format → ℕ → ℕ → Type 0
IsWithinNext element f magnitude code =
    magnitude * 2 ^ (format_of_element element).scale * 2 ^ scale_format.scale
    < highest_power element * (2 ^ f.scale * 2 ^ (code + 1))
