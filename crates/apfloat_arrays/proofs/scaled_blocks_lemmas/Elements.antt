-- The codes of elements, from bits to bits.
use Rattle.std.proofs.{Common.lit<, Common.lit≤, Math.Path.subst₂, Math.Nat.div-eq_of_lt, Math.Nat.mod-eq_of_lt}
use Rattle.std.proofs.Common.{◌≡◌, ℕ, ◌+◌, ◌-◌, ◌*◌, ◌/◌, ◌%◌, ◌^◌, ◌<◌, ◌≤◌}
use Rattle.std.proofs.Common.{Bool, true, false, cond, ◌&&◌, eqb, refl, sym, ap, ◌∙◌, subst, ⊎_elim, arith}
use Rattle.std.proofs.lemmas.Bool.{cases_eq, cases_lt, eq-eqb, le-ltb, lt-ltb, ne_eqb}
use Rattle.std.proofs.lemmas.Nat.{div-add-mod', mod_below, pow-add, pow_pos}
use Rattle.std.specs.Prelude.{negsuc}
use Rattle.apfloat_model.specs.{declared.kinds.Round.Round, formats.Datum.Datum, bits.Interchange.IsInterchange}
use Rattle.apfloat_model.specs.bits.Layout.{datum_of as bits_datum, datum_of_fields, implied_number}
use Rattle.apfloat_model.specs.formats.{Datum.finite, Format.Format, Formats.e4m3fn_constants, Formats.e5m2_constants}
use Rattle.apfloat_model.specs.formats.Lawful.{Constants, format_with, layout_with}
use Rattle.apfloat_model.proofs.bits.EncodedOnce.{fields_with}
use Rattle.formats_at_run_time.specs.ValueKinds.{value_of}
use Rattle.small_formats.specs.{Codes.point, LawTest.lawful_from_test, blocks.Elements.format_of_element}
use Rattle.small_formats.specs.{declared.blocks.ElementFormat.ElementFormat}
use Rattle.small_formats.specs.Storage.{IsLawfulStorage, StorageConstants, constants_with, format_with as stored_format}
use Rattle.small_formats.specs.blocks.Elements.{IsElement, IsQuotientBy, e2m1fn, e2m3fn, e3m2fn, element_datum}
use Rattle.small_formats.specs.declared.blocks.ElementFormat.TheVariants.{E5M2, E4M3FN, E3M2FN, E2M3FN, E2M1FN}
use Rattle.apfloat_arrays.specs.scaled_blocks.Elements.{IsCodedIn}
use Rattle.apfloat_arrays.specs.stored.NumberCodes.{HasCodes, IsCodedNumber, is_minus, quanta_in}
use Rattle.apfloat_arrays.proofs.scaled_blocks_lemmas.Numbers.{word_of_index}
use Rattle.apfloat_arrays.proofs.stored_lemmas.Numbers.{code_below, saturated_by, stored_codes}

-- ---- the formats of 8 bits

-- the number that the fields of its index encode
numbered : (f : Format) (negative : Bool) (index : ℕ)
    → implied_number f (fields_with negative (index / 2 ^ (f.precision - 1)) (index % 2 ^ (f.precision - 1)))
    ≡ finite negative (point f.precision index)
numbered f negative index =
    let h : ℕ = 2 ^ (f.precision - 1) in
    ⊎_elim {C = implied_number f (fields_with negative (index / 2 ^ (f.precision - 1)) (index % 2 ^ (f.precision - 1)))
    ≡ finite negative (point f.precision index)}
    (λ (below : index < 2 ^ (f.precision - 1)).
    let quotient : index / 2 ^ (f.precision - 1) ≡ 0 = div-eq_of_lt below in
    let rest : index % 2 ^ (f.precision - 1) ≡ index = mod-eq_of_lt below in
    rw (lt-ltb index h below, eq-eqb (index / h) 0 quotient, rest) refl)
    (λ (above : 2 ^ (f.precision - 1) ≤ index).
    let some : index / h ≡ 0 → ⊥ = λ e.
    let parts = div-add-mod' index h in
    let none : index / h * h ≡ 0 * h = ap (λ (n : ℕ). n * h) e in
    let less = mod_below index h (pow_pos (f.precision - 1)) in
    omega (arith, parts, none, less, above) in
    rw (le-ltb index h above, ne_eqb (index / h) 0 some) refl)
    (cases_lt index h)

-- the fields of a code
sign_at : (negative : Bool) (index : ℕ) → index < 128 → eqb ((cond negative 128 0 + index) / 128 % 2) 1 ≡ negative
sign_at true index l = let e : (128 + index) / 128 % 2 ≡ 1 = omega (arith, l) in ap (λ (n : ℕ). eqb n 1) e
sign_at false index l = let e : (0 + index) / 128 % 2 ≡ 0 = omega (arith, l) in ap (λ (n : ℕ). eqb n 1) e

fields_at_8 : (negative : Bool) (index : ℕ) → index < 128
    → ((cond negative 128 0 + index) / 8 % 16 ≡ index / 8) × ((cond negative 128 0 + index) % 8 ≡ index % 8)
fields_at_8 true index l = (omega (arith, l), omega (arith, l))
fields_at_8 false index l = (omega (arith, l), omega (arith, l))

e4m3_numbers : (negative : Bool) (index : ℕ) → index ≤ 126
    → bits_datum (format_with e4m3fn_constants) (layout_with e4m3fn_constants) (cond negative (2 ^ 7) 0 + index)
    ≡ finite negative (point 4 index)
e4m3_numbers negative index within =
    let f = format_with e4m3fn_constants in
    let l = layout_with e4m3fn_constants in
    let sign = sign_at negative index (omega (arith, within)) in
    let at = fields_at_8 negative index (omega (arith, within)) in
    let special : (eqb (index / 8) 15 && eqb (index % 8) 7) ≡ false =
    ⊎_elim {C = (eqb (index / 8) 15 && eqb (index % 8) 7) ≡ false}
    (λ (e : index / 8 ≡ 15).
    let other : eqb (index % 8) 7 ≡ false = ne_eqb (index % 8) 7 (λ t. omega (arith, e, t, within)) in
    rw (eq-eqb (index / 8) 15 e) other)
    (λ (e : index / 8 ≡ 15 → ⊥). rw (ne_eqb (index / 8) 15 e) refl)
    (cases_eq (index / 8) 15) in
    (λ i. datum_of_fields f l (fields_with (sign i) (at.0 i) (at.1 i)))
    ∙ rw special (numbered f negative index)

e5m2_interchange : IsInterchange (format_with e5m2_constants) (layout_with e5m2_constants)
e5m2_interchange =
    record { precise = lit≤ tt; some = lit≤ tt; bits = refl; within = lit≤ tt; span = refl; explicit = tt }

e5m2_codes : HasCodes (format_with e5m2_constants) (element_datum E5M2) (constants_with 8 3 (negsuc 13)) 123
e5m2_codes = record {
  some = lit< tt;
  precision = refl;
  tiny = refl;
  flags = refl;
  top = refl;
  numbers = λ negative index within.
      (word_of_index e5m2_constants negative index (cond negative (2 ^ 7) 0 + index) (lit≤ tt) refl e5m2_interchange
      refl refl (omega (arith, within)) refl).is_encoded.is;
}

e4m3_codes : HasCodes (format_with e4m3fn_constants) (element_datum E4M3FN) (constants_with 8 4 (negsuc 5)) 126
e4m3_codes =
    record { some = lit< tt; precision = refl; tiny = refl; flags = refl; top = refl; numbers = e4m3_numbers }

-- ---- elements

pub coded_e5m2 : IsCodedIn E5M2 (constants_with 8 3 (negsuc 13)) 123
coded_e5m2 = record { few = lit< tt; width = refl; scale = refl; codes = e5m2_codes }

pub coded_e4m3fn : IsCodedIn E4M3FN (constants_with 8 4 (negsuc 5)) 126
coded_e4m3fn = record { few = lit< tt; width = refl; scale = refl; codes = e4m3_codes }

pub coded_e3m2fn : IsCodedIn E3M2FN e3m2fn 31
coded_e3m2fn =
    record { few = lit< tt; width = refl; scale = refl; codes = stored_codes e3m2fn (lawful_from_test e3m2fn refl) }

pub coded_e2m3fn : IsCodedIn E2M3FN e2m3fn 31
coded_e2m3fn =
    record { few = lit< tt; width = refl; scale = refl; codes = stored_codes e2m3fn (lawful_from_test e2m3fn refl) }

pub coded_e2m1fn : IsCodedIn E2M1FN e2m1fn 7
coded_e2m1fn =
    record { few = lit< tt; width = refl; scale = refl; codes = stored_codes e2m1fn (lawful_from_test e2m1fn refl) }

-- ---- quotients

-- a number that is coded with the exponents of its quotient by a scale
pub coded_quotient : (element : ElementFormat) (k : Constants) (s : StorageConstants) (mode : Round)
    (first most scale bits code status : ℕ) → IsLawfulStorage s → IsCodedIn element s most
    → IsCodedNumber k s mode first most bits code status
    → (format_with k).scale + scale ≡ (stored_format s).scale + 127 + (k.precision - s.precision) + first
    → value_of k bits ≡ finite (is_minus k bits) (quanta_in k bits)
    → IsQuotientBy element (format_with k) mode (2 ^ scale) (2 ^ 127) (value_of k bits) code status
coded_quotient element k s mode first most scale bits code status law has is scales read =
    let f = format_with k in
    let to = (stored_format s).scale in
    let n = quanta_in k bits in
    let two = law.precision_low in
    let above = law.exponent in
    let up : 2 ^ (to + 127) ≡ 2 ^ to * 2 ^ 127 = pow-add 2 to 127 in
    let down : 2 ^ (f.scale + scale) ≡ 2 ^ f.scale * 2 ^ scale = pow-add 2 f.scale scale in
    let amount : n * 2 ^ (to + 127) ≡ n * 2 ^ (format_of_element element).scale * 2 ^ 127 =
    ap (λ (m : ℕ). n * m) up ∙ (let z : n * (2 ^ to * 2 ^ 127) ≡ n * 2 ^ to * 2 ^ 127 = omega arith in z)
    ∙ ap (λ (m : ℕ). n * 2 ^ m * 2 ^ 127) (sym has.scale) in
    let element_is : IsElement element mode (is_minus k bits) (n * 2 ^ (to + 127)) (2 ^ (f.scale + scale)) code status =
    saturated_by (format_of_element element) (element_datum element) s mode (is_minus k bits) is.exact
    (n * 2 ^ (to + 127)) (2 ^ (f.scale + scale)) most is.index code status has.codes
    (is.picked (to + 127) (f.scale + scale) scales) is.code_is is.status_is in
    let narrow = code_below s (is_minus k bits) most is.index code (omega (arith, two, above)) has.few is.code_is in
    subst (λ (x : Datum). IsQuotientBy element f mode (2 ^ scale) (2 ^ 127) x code status) (sym read) (
      subst (λ (w : ℕ). code < 2 ^ w) (sym has.width) narrow,
      subst₂ (λ (a b : ℕ). IsElement element mode (is_minus k bits) a b code status) amount down element_is,
    )
