-- The conversion of a finite datum whose number the other format also has is exact.
use Rattle.std.proofs.Common.{◌≡◌, ℕ, Bool, false, not, eqb, zero, suc, ◌*◌, ◌^◌, ◌<◌, sym, ap, ◌∙◌, arith}
use Rattle.std.proofs.lemmas.{Bool.ne_eqb, Nat.pow_pos}
use Rattle.apfloat_model.specs.{declared.kinds.Round.Round, formats.Format.Format}
use Rattle.apfloat_model.specs.formats.{Datum.Datum, Datum.finite, Datum.infinite, Datum.nan, Members.IsFiniteOf}
use Rattle.apfloat_model.specs.rounding.Rounding.{ok_bits, zero_sign, signed_quanta}
use Rattle.apfloat_model.specs.arithmetic.Conversions.{IsConversion, IsConverted, IsConvertedNumber, IsExactlyConverted}
use Rattle.apfloat_model.specs.arithmetic.Conversions.{loses_zero_sign, IsKept}
use Rattle.apfloat_model.proofs.general.{Powers.both_above_zero, Powers.both_zero, Choices.same_sign_self}
use Rattle.apfloat_model.proofs.rounding.{Deliveries.signed_some, Laws.exact_delivered, Laws.delivered_once}

-- a number that both formats have is converted to itself
number_exactly : (from into : Format) (mode : Round) (negative : Bool) (m n : ℕ) (value : Datum) (status : ℕ)
    (loses_info : Bool) → 0 < m → n * 2 ^ from.scale ≡ m * 2 ^ into.scale → IsFiniteOf into negative n
    → IsConvertedNumber from into mode negative m value status loses_info
    → IsConverted (finite negative n) ok_bits false value status loses_info
number_exactly from into mode b m n value status loses_info l e t h =
    let d = exact_delivered into mode b n (m * 2 ^ into.scale) (2 ^ from.scale)
    (pow_pos from.scale) t.on_grid t.within (sym e) in
    let o = delivered_once into mode b (m * 2 ^ into.scale)
    (2 ^ from.scale) value (signed_quanta into.nonfinite b n) status ok_bits h.is_delivered d in
    record {
      value_is = o.0 ∙ signed_some into.nonfinite b n (both_above_zero m n from.scale into.scale e l);
      status_is = o.1;
      loses_is = h.loses_is ∙ ap (λ (s : ℕ). not (eqb s ok_bits)) o.1;
    }

-- a zero whose sign the format keeps is converted to itself
zero_exactly : (format : Format) (negative : Bool) (value : Datum) (status : ℕ) (loses_info : Bool)
    → negative ≡ zero_sign format.nonfinite negative
    → IsKept (finite (zero_sign format.nonfinite negative) 0) (loses_zero_sign format negative) value status loses_info
    → IsConverted (finite negative 0) ok_bits false value status loses_info
zero_exactly format b value status loses_info z h =
    let k : loses_zero_sign format b ≡ false = rw (← z) (ap not (same_sign_self b)) in
    let r = rw k at h in
    record {
      value_is = r.value_is ∙ ap (λ (s : Bool). finite s 0) (sym z);
      status_is = r.status_is;
      loses_is = r.loses_is;
    }

-- the conversion of a finite datum that both formats have returns it unchanged, with no flag
pub exactly_converted : (from into : Format) (mode : Round) (x value : Datum) (status : ℕ) (loses_info : Bool)
    → IsConversion from into mode x value status loses_info → IsExactlyConverted from into x value status loses_info
exactly_converted from into mode (nan b s) value status loses_info h = tt
exactly_converted from into mode (infinite b) value status loses_info h = tt
exactly_converted from into mode (finite b zero) value status loses_info h = λ n e t.
    let z = both_zero n from.scale into.scale e in
    rw z (zero_exactly into b value status loses_info (t.zero_has z) h)
exactly_converted from into mode (finite b (suc m)) value status loses_info h = λ n e t.
    let k : eqb (suc m) 0 ≡ false = ne_eqb (suc m) 0 (λ z. absurd (omega (arith, z))) in
    number_exactly from into mode b (suc m) n value status loses_info (omega arith) e t (rw k at h)
