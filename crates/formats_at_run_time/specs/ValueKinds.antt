-- Kinds of values: those of a format, and pairs of doubles.
use Rattle.std.specs.Prelude.{ℕ}
use Rattle.rustc_apfloat.specs.{Datum.Datum, Layout.datum_of, Lawful.Constants, Lawful.format_with, Lawful.layout_with}

-- a format is given by its constants
pub data Kind : Type 0 where
  of_format : Constants → Kind
  of_pairs : Kind

-- how many bits a value has
abbrev pub bits_in : Kind → ℕ
bits_in (of_format c) = c.bits
bits_in of_pairs = 128

-- the value that bits encode; those at and above the width of the format are ignored
abbrev pub value_of : Constants → ℕ → Datum
value_of c bits = datum_of (format_with c) (layout_with c) bits
