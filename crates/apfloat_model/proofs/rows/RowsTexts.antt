-- Worked rows of encodings and texts.
use Rattle.std.proofs.Common.{◌≡◌, ℕ, ◌+◌, ◌*◌, ◌^◌, ◌≤◌, ◌⊎◌, true, false, refl, inl}
use Rattle.std.proofs.Common.{inr, neg_ℤ, pos, lit<, lit≤, List, [], ◌++◌, length, codes}
use Rattle.std.specs.Prelude.{IsTrue}
use Rattle.apfloat_model.specs.declared.parse_error.Fault.TheVariants.{NoLiteral, SecondDot, NoExponent}
use Rattle.apfloat_model.specs.declared.kinds.Round.{Round, TheVariants.NearestTiesToEven, TheVariants.TowardZero}
use Rattle.apfloat_model.specs.formats.Datum.{Datum, finite, infinite, nan}
use Rattle.apfloat_model.specs.formats.Lawful.{Constants, format_with, layout_with}
use Rattle.apfloat_model.specs.formats.Formats.{half_constants, e4m3fn_constants, e4m3fnuz_constants}
use Rattle.apfloat_model.specs.rounding.Rounding.{ok_bits, inexact_bit, overflow_bit, underflow_bit}
use Rattle.apfloat_model.specs.bits.Layout.{IsEncodedBy}
use Rattle.apfloat_model.specs.texts.Digits.{every, is_decimal, is_hexadecimal, number}
use Rattle.apfloat_model.specs.texts.Specials.{not_a_number, hexadecimal, mark_of, after_mark}
use Rattle.apfloat_model.specs.texts.{Texts.marked, Texts.IsHexadecimal, Readings.IsReading, Readings.IsRefusal}
use Rattle.apfloat_model.proofs.rows.RowsIn.{half, single, e4m3fnuz, in_half, in_single, in_e4m3fnuz, answer, rounded}

-- ---- encodings: values are counted in quanta, of 2 ^ -24 in half precision

abbrev Encodes : Constants → ℕ → Datum → Type 0
Encodes constants bits value = IsEncodedBy (format_with constants) (layout_with constants) bits value

-- 1, a denormal, the largest value, an infinity and a NaN
bits_of_one : Encodes half_constants 0x3c00 (finite false (2 ^ 24))
bits_of_one = record { below = lit< tt; canonical = refl; is = refl }

bits_of_a_denormal : Encodes half_constants 0x83ff (finite true 1023)
bits_of_a_denormal = record { below = lit< tt; canonical = refl; is = refl }

bits_of_the_largest : Encodes half_constants 0x7bff (finite false (65504 * 2 ^ 24))
bits_of_the_largest = record { below = lit< tt; canonical = refl; is = refl }

bits_of_infinity : Encodes half_constants 0xfc00 (infinite true)
bits_of_infinity = record { below = lit< tt; canonical = refl; is = refl }

bits_of_a_nan : Encodes half_constants 0x7e01 (nan false 0x201)
bits_of_a_nan = record { below = lit< tt; canonical = refl; is = refl }

-- in e4m3fn the quantum is 2 ^ -9, and all ones are the NaN
largest_of_e4m3fn : Encodes e4m3fn_constants 0x7e (finite false (448 * 2 ^ 9))
largest_of_e4m3fn = record { below = lit< tt; canonical = refl; is = refl }

-- with the sign bit it is the negative NaN
nan_of_e4m3fn : Encodes e4m3fn_constants 0xff (nan true 7)
nan_of_e4m3fn = record { below = lit< tt; canonical = refl; is = refl }

-- what would be the negative zero is the NaN
nan_of_e4m3fnuz : Encodes e4m3fnuz_constants 0x80 (nan false 0)
nan_of_e4m3fnuz = record { below = lit< tt; canonical = refl; is = refl }

-- ---- hexadecimal texts, in parts: digits, digits after the dot, and the exponent after the p

-- a body with these parts is that of a hexadecimal number
in_parts : {body : List ℕ} (whole point fraction exponent : List ℕ)
    → (point ≡ codes ".") ⊎ ((point ≡ []) × (fraction ≡ []))
    → body ≡ codes "0x" ++ (whole ++ (point ++ (fraction ++ (codes "p" ++ exponent))))
    → IsTrue (every is_hexadecimal (whole ++ fraction)) → 1 ≤ length (whole ++ fraction)
    → IsTrue (every is_decimal (after_mark exponent)) → 1 ≤ length (after_mark exponent)
    → IsHexadecimal body (number 16 (whole ++ fraction)) (length fraction)
    (marked (mark_of exponent) (number 10 (after_mark exponent)))
in_parts whole point fraction exponent is_point spelled digits some exponent_digits some_exponent = record {
  prefix = codes "0x";
  whole = whole;
  point = point;
  fraction = fraction;
  letter = codes "p";
  exponent = exponent;
  spelled = spelled;
  is_prefix = inl refl;
  is_point = is_point;
  is_letter = inl refl;
  are_digits = digits;
  has_digits = some;
  are_exponent_digits = exponent_digits;
  has_exponent_digits = some_exponent;
  h_is = refl;
  f_is = refl;
  e_is = refl;
}

-- 0.75
read_three_quarters : (mode : Round) → IsReading half mode (codes "0x1.8p-1") (in_half 0x3a00) ok_bits
read_three_quarters mode = record {
  meaning = hexadecimal false 0x18 1 (neg_ℤ (pos 1));
  means = (
    refl,
    in_parts (codes "1") (codes ".") (codes "8") (codes "-1") (inl refl) refl refl (lit≤ tt) refl (lit≤ tt),
  );
  is_meant = rounded 1536 13 refl refl refl;
}

-- 65520, halfway between the largest value and 65536
read_past_the_largest : IsReading half NearestTiesToEven (codes "0x1.ffep+15") (in_half 0x7c00)
    (overflow_bit + inexact_bit)
read_past_the_largest = record {
  meaning = hexadecimal false 0x1ffe 3 (pos 15);
  means = (
    refl,
    in_parts (codes "1") (codes ".") (codes "ffe") (codes "+15") (inl refl) refl refl (lit≤ tt) refl (lit≤ tt),
  );
  is_meant = rounded 2047 29 refl refl refl;
}

-- toward zero the largest value is kept
read_kept_at_the_largest : IsReading half TowardZero (codes "0x1.ffep+15") (in_half 0x7bff) inexact_bit
read_kept_at_the_largest = record {
  meaning = hexadecimal false 0x1ffe 3 (pos 15);
  means = (
    refl,
    in_parts (codes "1") (codes ".") (codes "ffe") (codes "+15") (inl refl) refl refl (lit≤ tt) refl (lit≤ tt),
  );
  is_meant = rounded 2047 29 refl refl refl;
}

-- half of the least positive value
read_underflow : IsReading half NearestTiesToEven (codes "0x1p-25") (in_half 0x0000) (underflow_bit + inexact_bit)
read_underflow = record {
  meaning = hexadecimal false 1 0 (neg_ℤ (pos 25));
  means = (refl, in_parts (codes "1") [] [] (codes "-25") (inr (refl, refl)) refl refl (lit≤ tt) refl (lit≤ tt));
  is_meant = rounded 0 0 refl refl refl;
}

-- there is no negative zero
read_zero_without_minus : IsReading e4m3fnuz NearestTiesToEven (codes "-0x0p0") (in_e4m3fnuz 0x00) ok_bits
read_zero_without_minus = record {
  meaning = hexadecimal true 0 0 (pos 0);
  means = (refl, in_parts (codes "0") [] [] (codes "0") (inr (refl, refl)) refl refl (lit≤ tt) refl (lit≤ tt));
  is_meant = rounded 0 0 refl refl refl;
}

-- ---- texts of NaNs

-- a payload may be hexadecimal
read_payload : IsReading single NearestTiesToEven (codes "nan(0x2a)") (in_single 0x7fc0002a) ok_bits
read_payload = record { meaning = not_a_number false false 42; means = refl; is_meant = answer }

-- a leading 0 makes a payload octal
read_octal_payload : IsReading single NearestTiesToEven (codes "nan010") (in_single 0x7fc00008) ok_bits
read_octal_payload = record { meaning = not_a_number false false 8; means = refl; is_meant = answer }

-- an s makes a NaN signaling
read_signaling : IsReading single NearestTiesToEven (codes "-snan") (in_single 0xffa00000) ok_bits
read_signaling = record { meaning = not_a_number true true 0; means = refl; is_meant = answer }

-- ---- texts that are refused, and the words

-- no exponent, a second dot, and no prefix
refused_without_exponent : IsRefusal (codes "0x1") (codes "Hex strings require an exponent")
refused_without_exponent = record { fault = NoExponent; is_first = refl; says = refl }

refused_second_dot : IsRefusal (codes "0x1.2.3p0") (codes "String contains multiple dots")
refused_second_dot = record { fault = SecondDot; is_first = refl; says = refl }

refused_decimal : IsRefusal (codes "1.0") (codes "Not a special or hexadecimal literal")
refused_decimal = record { fault = NoLiteral; is_first = refl; says = refl }
