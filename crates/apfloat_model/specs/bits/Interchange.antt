-- Formats whose data are written as bits, and the bit pattern of given fields.
use Rattle.std.specs.Prelude.{◌≡◌, ℕ, ◌+◌, ◌*◌, ◌^◌, ◌<◌, ◌≤◌, true, if◌then◌else◌}
use Rattle.apfloat_model.specs.formats.{Format.Format, Datum.Datum, Lawful.MayBeExplicit, Lawful.more_exponents}
use Rattle.apfloat_model.specs.bits.Layout.{Layout, Fields, trailing_bits, is_canonical, datum_of_fields}

pub record IsInterchange (f : Format) (layout : Layout) : Type 0 where
  pub precise : 3 ≤ f.precision
  pub some : 1 ≤ layout.exponent_bits
  pub bits : layout.bits ≡ trailing_bits f + layout.exponent_bits + 1
  pub within : layout.bits ≤ 128
  pub span : f.span + 3 ≡ 2 ^ layout.exponent_bits + more_exponents f.nonfinite
  pub explicit : MayBeExplicit f.nonfinite f.explicit_integer_bit

-- each field fits in its width
pub record AreWithin (f : Format) (layout : Layout) (x : Fields) : Type 0 where
  pub biased_exponent : x.biased_exponent < 2 ^ layout.exponent_bits
  pub trailing : x.trailing < 2 ^ trailing_bits f

-- the bits of fields
abbrev pub bits_of_fields : Format → Layout → Fields → ℕ
bits_of_fields f layout x =
    ((if x.negative then 1 else 0) * 2 ^ layout.exponent_bits + x.biased_exponent) * 2 ^ trailing_bits f + x.trailing

-- the fields of the canonical encoding of a datum
pub record AreFieldsOf (f : Format) (layout : Layout) (x : Fields) (datum : Datum) : Type 0 where
  pub within : AreWithin f layout x
  pub canonical : is_canonical f layout x ≡ true
  pub is : datum_of_fields f layout x ≡ datum
