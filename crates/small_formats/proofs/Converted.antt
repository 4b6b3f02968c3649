-- What a code means, in another format.
use Rattle.std.proofs.Common.{◌≡◌, ℕ, ◌*◌, ◌^◌, ◌<◌, Bool, false, not, eqb, sym, refl, ap, ◌∙◌, subst, arith}
use Rattle.std.proofs.lemmas.{Bool.eq-eqb, Bool.ne_eqb, Nat.pow_pos}
use Rattle.std.specs.Bool.{MatchBool}
use Rattle.apfloat_model.specs.declared.kinds.Round.{Round}
use Rattle.apfloat_model.specs.arithmetic.Conversions.{IsConversion, IsConvertedNumber, IsKept, loses_zero_sign}
use Rattle.apfloat_model.specs.formats.{Datum.Datum, Datum.finite, Format.Format}
use Rattle.apfloat_model.specs.rounding.Rounding.{IsDelivered, ok_bits, zero_sign}
use Rattle.small_formats.specs.{Scales.scale_format, Scales.scale_of, Storage.StorageConstants, Storage.format_with}
use Rattle.small_formats.specs.Codes.{datum_of, is_negative_code, magnitude_of, point}
use Rattle.small_formats.proofs.CodesCompared.{not_below_number, zero_point}

-- ---- elements

pub zero_converted : (c : StorageConstants) (g : Format) (mode : Round) (code : ℕ) (value : Datum) (status : ℕ)
    (loses : Bool) → magnitude_of c code ≡ 0 → IsKept (finite (zero_sign g.nonfinite (is_negative_code c code)) 0)
    (loses_zero_sign g (is_negative_code c code)) value status loses
    → IsConversion (format_with c) g mode (datum_of c code) value status loses
zero_converted c g mode code value status loses z h =
    let n : ℕ = point c.precision (magnitude_of c code) in
    let b : Bool = is_negative_code c code in
    let at : n ≡ 0 = ap (λ (k : ℕ). point c.precision k) z ∙ zero_point c.precision in
    subst (λ (t : Bool). MatchBool t
    (IsKept (finite (zero_sign g.nonfinite b) 0) (loses_zero_sign g b) value status loses)
    (IsConvertedNumber (format_with c) g mode b n value status loses)) (sym (eq-eqb n 0 at)) h

pub number_converted : (c : StorageConstants) (g : Format) (mode : Round) (code : ℕ) (value : Datum) (status : ℕ)
    (loses : Bool) → 0 < c.precision → 0 < magnitude_of c code
    → IsDelivered g mode (is_negative_code c code) (point c.precision (magnitude_of c code) * 2 ^ g.scale)
    (2 ^ (format_with c).scale) value status → loses ≡ not (eqb status ok_bits)
    → IsConversion (format_with c) g mode (datum_of c code) value status loses
number_converted c g mode code value status loses some p h l =
    let n : ℕ = point c.precision (magnitude_of c code) in
    let b : Bool = is_negative_code c code in
    let least = not_below_number c.precision (magnitude_of c code) some in
    let off : eqb n 0 ≡ false = ne_eqb n 0 (λ e. omega (arith, e, least, p)) in
    subst (λ (t : Bool). MatchBool t
    (IsKept (finite (zero_sign g.nonfinite b) 0) (loses_zero_sign g b) value status loses)
    (IsConvertedNumber (format_with c) g mode b n value status loses)) (sym off)
    (record { is_delivered = h; loses_is = l })

-- ---- scales

pub scale_converted : (g : Format) (mode : Round) (code : ℕ) (value : Datum) (status : ℕ) (loses : Bool)
    → (code ≡ 255 → ⊥) → IsDelivered g mode false (2 ^ code * 2 ^ g.scale) (2 ^ 127) value status
    → loses ≡ not (eqb status ok_bits) → IsConversion scale_format g mode (scale_of code) value status loses
scale_converted g mode code value status loses n h l =
    let number : scale_of code ≡ finite false (2 ^ code) =
    let off : eqb code 255 ≡ false = ne_eqb code 255 n in rw off refl in
    let off : eqb (2 ^ code) 0 ≡ false = ne_eqb (2 ^ code) 0 (λ e. omega (arith, e, pow_pos code)) in
    subst (λ (x : Datum). IsConversion scale_format g mode x value status loses) (sym number)
    (subst (λ (t : Bool). MatchBool t
    (IsKept (finite (zero_sign g.nonfinite false) 0) (loses_zero_sign g false) value status loses)
    (IsConvertedNumber scale_format g mode false (2 ^ code) value status loses)) (sym off)
    (record { is_delivered = h; loses_is = l }))
