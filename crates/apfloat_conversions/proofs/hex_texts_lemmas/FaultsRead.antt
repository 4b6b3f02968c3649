-- The results of reading a text agree with the model.
use Rattle.std.proofs.Common.{◌≡◌, ℕ, ◌*◌, Bool, true, false, refl, sym, List, [], ◌∷◌, length, drop}
use Rattle.std.proofs.Common.{◌==◌, None, ℤ, pos, negsuc, ◌+ℤ◌, ◌-ℤ◌, ◌^◌, ◌<◌, ◌≤◌}
use Rattle.std.proofs.{Common.arith, Common.FitsSigned, lemmas.Bool.eqb-true, lemmas.Int.ints}
use Rattle.std.specs.Int.{w128}
use Rattle.apfloat_model.specs.declared.{kinds.Round.Round, status.StatusAnd.StatusAnd}
use Rattle.apfloat_model.specs.rounding.{Bounds.IsWithin, Flags.bits_of}
use Rattle.apfloat_model.specs.texts.{Digits.is_empty, Faults.after_prefix_fault, Literals.digits_number}
use Rattle.apfloat_model.specs.texts.{Literals.exponent_number, Readings.IsScaledDelivery}
use Rattle.apfloat_rounding.specs.declared.{shape.Shape.Shape, unpacked.Unpacked.Unpacked}
use Rattle.apfloat_rounding.specs.{Shapes.format_at, Stored.IsStored, Stored.datum_at}
use Rattle.apfloat_conversions.specs.{declared.hex_texts.significand.Scan.Scan, hex_texts.Scans.IsScanned}
use Rattle.apfloat_conversions.specs.hex_texts.Saturation.{count_bound, fault_after}
use Rattle.apfloat_conversions.specs.hex_texts.LiteralParts.{IsLiteralRead}

-- ---- the number after the prefix

-- a scanned significand with digits, followed by an exponent without a fault, has no fault
fault_free : (rest tail : List ℕ) (scan : Scan) → is_empty rest ≡ false
    → IsScanned rest tail scan → fault_after scan.some tail ≡ None → after_prefix_fault rest ≡ None
fault_free rest tail scan n s f = rw (n, s.one_dot, s.empty_is, s.tail_is) f

-- the number after the prefix is read, if no fault was found
pub literal_read : (shape : Shape) (mode : Round) (negative : Bool) (rest tail : List ℕ) (scan : Scan)
    (answer : StatusAnd Unpacked) → is_empty rest ≡ false → IsScanned rest tail scan → fault_after scan.some tail ≡ None
    → IsStored shape answer.value → IsScaledDelivery (format_at shape) mode negative (digits_number rest)
    ((exponent_number (drop 1 tail) -ℤ pos (4 * scan.places)) +ℤ pos (format_at shape).scale)
    (datum_at shape answer.value) (bits_of answer.status) → IsLiteralRead shape mode negative rest answer
literal_read shape mode negative rest tail scan answer n s f stored d =
    record {
      no_fault = fault_free rest tail scan n s f;
      stored = stored;
      delivered = rw (s.tail_is, s.places_are) d;
    }

-- a text of length 0 is empty
pub empty_text : (rest : List ℕ) → true ≡ (length rest == 0) → is_empty rest ≡ true
empty_text [] h = refl
empty_text (c ∷ rest) h = absurd (omega (arith, eqb-true (length (c ∷ rest)) 0 (sym h)))

-- a text of another length is not empty
pub some_text : (rest : List ℕ) → false ≡ (length rest == 0) → is_empty rest ≡ false
some_text [] h = sym h
some_text (c ∷ rest) h = refl

-- an exponent within the bound fits its type
pub exponent_fits : (e : ℤ) → IsWithin count_bound e → FitsSigned w128 e
exponent_fits (pos n) within = let m : n ≤ 2 ^ 100 = omega (arith, ints, within.high) in
    record { sfits = omega (arith, m) }
exponent_fits (negsuc n) within = let m : n < 2 ^ 100 = omega (arith, ints, within.low) in
    record { sfits = omega (arith, m) }
