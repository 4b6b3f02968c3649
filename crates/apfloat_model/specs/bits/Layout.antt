-- How the data of a format are written as bits (IEEE 754-2019 3.4): from the top, the sign, the biased exponent, and
-- the trailing significand. With an explicit integer bit, the trailing significand includes that bit; otherwise it is
-- implied.
use Rattle.std.specs.Prelude.{◌≡◌, ℕ, ◌+◌, ◌-◌, ◌*◌, ◌/◌, ◌%◌, ◌^◌, ◌<◌, Bool, true, false, ◌&&◌, ltb, leb, eqb}
use Rattle.std.specs.Prelude.{if◌then◌else◌, IsTrue}
use Rattle.apfloat_model.specs.declared.kinds.NonfiniteBehavior.{NonfiniteBehavior}
use Rattle.apfloat_model.specs.declared.kinds.NonfiniteBehavior.TheVariants.{IEEE754, NanOnly, NanNegativeZero}
use Rattle.apfloat_model.specs.formats.Format.{Format, smallest_normalized, nan_base}
use Rattle.apfloat_model.specs.formats.Datum.{Datum, finite, infinite, nan}

-- the number of bits in all, and in the biased exponent; the format determines the width of the significand
pub record Layout : Type 0 where
  pub bits : ℕ
  pub exponent_bits : ℕ

pub record Fields : Type 0 where
  pub negative : Bool
  pub biased_exponent : ℕ
  pub trailing : ℕ

-- `width` ones
abbrev pub all_ones : ℕ → ℕ
all_ones width = 2 ^ width - 1

abbrev pub trailing_bits : Format → ℕ
trailing_bits f = if f.explicit_integer_bit then f.precision else f.precision - 1

-- bits above the sign are ignored
abbrev pub fields_of : Format → Layout → ℕ → Fields
fields_of f layout bits =
    record {
      negative = eqb (bits / 2 ^ (layout.bits - 1) % 2) 1;
      biased_exponent = bits / 2 ^ trailing_bits f % 2 ^ layout.exponent_bits;
      trailing = bits % 2 ^ trailing_bits f;
    }

abbrev pub has_all_ones : Layout → Fields → Bool
has_all_ones layout x = eqb x.biased_exponent (all_ones layout.exponent_bits)

-- a number with an implied integer bit: the biased exponent 0 is that of denormal numbers, any other implies the bit
abbrev pub implied_number : Format → Fields → Datum
implied_number f x =
    if eqb x.biased_exponent 0
    then finite x.negative x.trailing
    else finite x.negative ((smallest_normalized f + x.trailing) * 2 ^ (x.biased_exponent - 1))

abbrev pub implied_datum : NonfiniteBehavior → Format → Layout → Fields → Datum
-- the greatest exponent is that of infinities and NaNs
implied_datum IEEE754 f layout x =
    if has_all_ones layout x then (if eqb x.trailing 0 then infinite x.negative else nan x.negative x.trailing)
    else implied_number f x
-- all ones is the NaN of that sign
implied_datum NanOnly f layout x =
    if has_all_ones layout x && eqb x.trailing (all_ones (f.precision - 1)) then nan x.negative (nan_base f)
    else implied_number f x
-- the encoding that would be negative zero is the NaN
implied_datum NanNegativeZero f layout x =
    if x.negative && eqb x.biased_exponent 0 && eqb x.trailing 0 then nan false (nan_base f) else implied_number f x

-- A number with an explicit integer bit. If that bit is 0 above the least exponent, it is not a number.
abbrev pub written_number : Format → Fields → Datum
written_number f x =
    if eqb x.biased_exponent 0
    then finite x.negative x.trailing
    else (if leb (smallest_normalized f) x.trailing
    then finite x.negative (x.trailing * 2 ^ (x.biased_exponent - 1))
    else nan x.negative x.trailing)

abbrev pub written_datum : Format → Layout → Fields → Datum
written_datum f layout x =
    if has_all_ones layout x
    then (if eqb x.trailing (smallest_normalized f) then infinite x.negative else nan x.negative x.trailing)
    else written_number f x

-- the datum that the bits encode
abbrev pub datum_of_fields : Format → Layout → Fields → Datum
datum_of_fields f layout x = if f.explicit_integer_bit then written_datum f layout x
    else implied_datum f.nonfinite f layout x

abbrev pub datum_of : Format → Layout → ℕ → Datum
datum_of f layout bits = datum_of_fields f layout (fields_of f layout bits)

-- Of the encodings of one datum, one is canonical (3.5.2 uses the word for decimal formats). With an explicit integer
-- bit, it is the one whose exponent is 0 exactly if the integer bit is 0; infinities and NaNs have the greatest
-- exponent.
abbrev pub is_canonical_written : Format → Layout → Fields → Bool
is_canonical_written f layout x =
    if has_all_ones layout x then true
    else (if eqb x.biased_exponent 0 then ltb x.trailing (smallest_normalized f)
    else leb (smallest_normalized f) x.trailing)

abbrev pub is_canonical : Format → Layout → Fields → Bool
is_canonical f layout x = if f.explicit_integer_bit then is_canonical_written f layout x else true

-- the bits are the canonical encoding of the datum
pub record IsEncodedBy (f : Format) (layout : Layout) (bits : ℕ) (datum : Datum) : Type 0 where
  pub below : bits < 2 ^ layout.bits
  pub canonical : IsTrue (is_canonical f layout (fields_of f layout bits))
  pub is : datum_of f layout bits ≡ datum

-- The bits are read as the datum that they encode. With an implied integer bit, bits of that length are its only
-- encoding.
pub record IsReadFrom (f : Format) (layout : Layout) (bits : ℕ) (datum : Datum) : Type 0 where
  pub read : datum ≡ datum_of f layout bits
  pub back : f.explicit_integer_bit ≡ false → bits < 2 ^ layout.bits → IsEncodedBy f layout bits datum
  pub once : f.explicit_integer_bit ≡ false → bits < 2 ^ layout.bits
      → (other : ℕ) → IsEncodedBy f layout other datum → other ≡ bits
