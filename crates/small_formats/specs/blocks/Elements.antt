-- Elements of blocks: what their codes mean, and how a quotient becomes one.
use Rattle.std.specs.Prelude.{◌≡◌, ℕ, ◌*◌, ◌^◌, ◌<◌, Bool, pos, neg_ℤ}
use Rattle.apfloat_model.specs.declared.kinds.Round.{Round}
use Rattle.apfloat_model.specs.bits.Layout.{datum_of as bits_datum}
use Rattle.apfloat_model.specs.formats.{Datum.Datum, Format.Format, Formats.e4m3fn_constants, Formats.e5m2_constants}
use Rattle.apfloat_model.specs.{formats.Lawful.format_with, formats.Lawful.layout_with, order.Classes.is_negative}
use Rattle.apfloat_model.specs.{order.Classes.quanta_of, rounding.Rounding.IsPick, rounding.Rounding.delivered_status}
use Rattle.small_formats.specs.{Codes.datum_of, Conversions.saturated_value}
use Rattle.small_formats.specs.Storage.{constants_with, StorageConstants as Stored, format_with as stored_format}
use Rattle.small_formats.specs.declared.blocks.elements.ElementFormat.{ElementFormat}
use Rattle.small_formats.specs.declared.blocks.elements.ElementFormat.TheVariants.{E5M2, E4M3FN, E3M2FN, E2M3FN, E2M1FN}

-- ---- formats

abbrev pub e3m2fn : Stored
e3m2fn = constants_with 6 3 (neg_ℤ (pos 2))

abbrev pub e2m3fn : Stored
e2m3fn = constants_with 6 4 (pos 0)

abbrev pub e2m1fn : Stored
e2m1fn = constants_with 4 2 (pos 0)

abbrev pub format_of_element : ElementFormat → Format
format_of_element E5M2 = format_with e5m2_constants
format_of_element E4M3FN = format_with e4m3fn_constants
format_of_element E3M2FN = stored_format e3m2fn
format_of_element E2M3FN = stored_format e2m3fn
format_of_element E2M1FN = stored_format e2m1fn

-- the bits of a code
abbrev pub width : ElementFormat → ℕ
width E5M2 = 8
width E4M3FN = 8
width E3M2FN = 6
width E2M3FN = 6
width E2M1FN = 4

-- the exponent of the largest number, from its integer bit
abbrev pub max_exp : ElementFormat → ℕ
max_exp E5M2 = 15
max_exp E4M3FN = 8
max_exp E3M2FN = 4
max_exp E2M3FN = 2
max_exp E2M1FN = 2

-- the code of 2 to the power of that exponent
abbrev pub power_code : ElementFormat → ℕ
power_code E5M2 = 120
power_code E4M3FN = 120
power_code E3M2FN = 28
power_code E2M3FN = 24
power_code E2M1FN = 6

-- of a code of that width: the number, or of the formats of 8 bits the infinity or the NaN that it means
abbrev pub element_datum : ElementFormat → ℕ → Datum
element_datum E5M2 code = bits_datum (format_with e5m2_constants) (layout_with e5m2_constants) code
element_datum E4M3FN code = bits_datum (format_with e4m3fn_constants) (layout_with e4m3fn_constants) code
element_datum E3M2FN code = datum_of e3m2fn code
element_datum E2M3FN code = datum_of e2m3fn code
element_datum E2M1FN code = datum_of e2m1fn code

-- ---- quotients

-- The magnitude amount / parts quanta of g with that sign, rounded once. Past the largest number there is nothing but
-- that number, in each mode; the flags are those of the rounding.
pub record IsSaturatedIn (g : Format) (mode : Round) (negative : Bool) (amount parts : ℕ) (value : Datum)
    (status : ℕ) : Type 0 where
  pub pick : ℕ
  pub is_pick : IsPick g.precision mode negative amount parts pick
  pub value_is : value ≡ saturated_value g negative pick
  pub status_is : status ≡ delivered_status g mode negative amount parts pick

-- a magnitude is rounded once and saturated, and the code means the value
abbrev pub IsElementIn : Format → (ℕ → Datum) → Round → Bool → ℕ → ℕ → ℕ → ℕ → Type 0
IsElementIn g datum mode negative amount parts code status =
    IsSaturatedIn g mode negative amount parts (datum code) status

abbrev pub IsElement : ElementFormat → Round → Bool → ℕ → ℕ → ℕ → ℕ → Type 0
IsElement element mode negative amount parts code status =
    IsElementIn (format_of_element element) (element_datum element) mode negative amount parts code status

-- the finite datum x of the format f, divided by divisor / unit, in a code of the element format
abbrev pub IsQuotientBy : ElementFormat → Format → Round → ℕ → ℕ → Datum → ℕ → ℕ → Type 0
IsQuotientBy element f mode divisor unit x code status =
    (code < 2 ^ width element)
    × IsElement element mode (is_negative x) (quanta_of x * 2 ^ (format_of_element element).scale * unit)
    (2 ^ f.scale * divisor) code status
