-- A value takes at least one byte, at most sixteen, and enough for its bits.
use Rattle.std.proofs.Common.{◌≡◌, ℕ, ◌*◌, ◌<◌, ◌≤◌, ◌==◌, Bool, true, false, if◌then◌else◌, refl, ⊎_elim, arith}
use Rattle.std.proofs.lemmas.Bool.{ltb-true, eqb-true}
use Rattle.std.specs.Int.{div_ceil}
use Rattle.rustc_apfloat.specs.Lawful.{HasBits, HasNoBits}
use Rattle.formats_at_run_time.specs.declared.{built_in.BuiltInFormat.BuiltInFormat, FlaggedFormat.FlaggedFormat}
use Rattle.formats_at_run_time.specs.declared.FlaggedFormat.TheVariants.{BuiltIn, AfterRounding, BeforeRounding}
use Rattle.formats_at_run_time.specs.BuiltIns.{KnownFormat, constants_in, known_format}
use Rattle.formats_at_run_time.specs.FlaggedKinds.{flagged_constants, format_of_ieee, format_without_rule}
use Rattle.apfloat_arrays.specs.declared.widths.Extended.{Extended, TheVariants.Packed, TheVariants.Padded}
use Rattle.apfloat_arrays.specs.Widths.{bytes_of, width_of, width_with}

pub record HasRoom (bits width : ℕ) : Type 0 where
  pub least : 1 ≤ width
  pub greatest : width ≤ 16
  pub enough : bits ≤ 8 * width

-- the bytes that the bits take have room for them
pub in_bytes : (bits : ℕ) → 1 ≤ bits → bits ≤ 128 → HasRoom bits (bytes_of bits)
in_bytes bits some few = room (div_ceil bits 8 == 3) refl
  where
    room : (three : Bool) → (div_ceil bits 8 == 3) ≡ three → HasRoom bits (if three then 4 else div_ceil bits 8)
    room true e =
        let is : div_ceil bits 8 ≡ 3 = eqb-true (div_ceil bits 8) 3 e in
        record { least = omega arith; greatest = omega arith; enough = omega arith }
    room false e = record { least = omega arith; greatest = omega arith; enough = omega arith }

-- sixteen bytes have room for the bits
padded : (bits : ℕ) (explicit : Bool) → 1 ≤ bits → bits ≤ 128 → HasRoom bits (if explicit then 16 else bytes_of bits)
padded bits true some few = record { least = omega arith; greatest = omega arith; enough = omega arith }
padded bits false some few = in_bytes bits some few

-- a format whose values have more bits than digits has at most 128
few_bits : (known : KnownFormat) → known.constants.bits ≤ 128
few_bits known =
    let wide : known.constants.precision < known.constants.bits = ltb-true _ _ known.wide in
    ⊎_elim {C = known.constants.bits ≤ 128}
    (λ (none : HasNoBits known.constants). let zero_bits = none.bits in omega arith)
    (λ (some : HasBits known.constants). some.bits_high)
    known.lawful.layout

room_of : (known : KnownFormat) (extended : Extended)
    → HasRoom known.constants.bits (width_with known.constants extended)
room_of known Packed =
    let wide : known.constants.precision < known.constants.bits = ltb-true _ _ known.wide in
    in_bytes known.constants.bits (omega arith) (few_bits known)
room_of known Padded =
    let wide : known.constants.precision < known.constants.bits = ltb-true _ _ known.wide in
    padded known.constants.bits known.constants.explicit_integer_bit (omega arith) (few_bits known)

pub width_room : (format : BuiltInFormat) (extended : Extended)
    → HasRoom (constants_in format).bits (width_of format extended)
width_room format extended = room_of (known_format format) extended

-- the same of a format with a rule of flags
pub flagged_room : (format : FlaggedFormat)
    → (flagged_constants format).bits ≤ 8 * width_of (format_without_rule format) Packed
flagged_room (BuiltIn format) = (width_room format Packed).enough
flagged_room (AfterRounding format) = (width_room (format_of_ieee format) Packed).enough
flagged_room (BeforeRounding format) = (width_room (format_of_ieee format) Packed).enough
