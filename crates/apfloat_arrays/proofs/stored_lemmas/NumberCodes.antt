-- Numbers that became codes, with any treatment of overflow.
use Rattle.std.proofs.Common.{◌≡◌, ℕ, ◌+◌, ◌-◌, ◌*◌, ◌^◌, ◌<◌, ◌⊎◌, Bool, true, false}
use Rattle.std.proofs.Common.{cond, not, eqb, refl, sym, ap, ◌∙◌, subst, ⊎_elim}
use Rattle.std.proofs.lemmas.Bool.{eq-eqb}
use Rattle.std.specs.Int.RustNames.{bit_and}
use Rattle.rustc_apfloat.specs.{declared.Round.Round, Datum.Datum, Datum.finite, Format.Format, Lawful.Constants}
use Rattle.rustc_apfloat.specs.{Lawful.format_with, Lawful.layout_with, Layout.datum_of}
use Rattle.small_formats.specs.{Conversions.IsInto, Storage.StorageConstants, declared.saturation.Overflow.Overflow}
use Rattle.small_formats.specs.declared.saturation.Overflow.TheVariants.{Rounded, Saturated, Finite}
use Rattle.apfloat_arrays.specs.{declared.stored.formats.StoredFormat.StoredFormat, stored.Formats.largest_code}
use Rattle.apfloat_arrays.specs.stored.NumberCodes.{HasConstants, IsWordSource, biased_of, is_minus, significand_of}
use Rattle.apfloat_arrays.specs.stored.Stored.{IsOwn, IsSaturatedCode, IsStoredBy, saturated_code}
use Rattle.apfloat_arrays.proofs.stored_lemmas.Numbers.{number_read}

-- ---- the formats

-- ---- overflow

either_way : (b : Bool) (code largest : ℕ) → code ≡ largest → code ≡ cond b largest code
either_way true code largest e = e
either_way false code largest e = refl

module _ (format : StoredFormat) (s : StorageConstants) (f : Format) (mode : Round) (negative : Bool)
    (n code status : ℕ) (loses : Bool) (has : HasConstants format s) (below : code < 2 ^ s.bits)
    (into : IsInto s f mode (finite negative n) code status loses)
    (past : (bit_and status 4 ≡ 0) ⊎ (code ≡ cond negative (2 ^ (s.bits - 1)) 0 + (2 ^ (s.bits - 1) - 1))) where
  own : IsOwn format f mode (finite negative n) code status
  own = record { loses = loses; is_stored = has.into f mode (finite negative n) code status loses into }

  stays : code ≡ saturated_code format negative code status
  stays =
      ⊎_elim {C = code ≡ saturated_code format negative code status}
      (λ (none : bit_and status 4 ≡ 0).
      sym (ap (λ (b : Bool). cond (not b) (largest_code format negative) code) (eq-eqb (bit_and status 4) 0 none)))
      (λ (top : code ≡ cond negative (2 ^ (s.bits - 1)) 0 + (2 ^ (s.bits - 1) - 1)).
      either_way (not (eqb (bit_and status 4) 0)) code (largest_code format negative)
      (top ∙ sym (has.largest negative))) past

  saturated_code_is : IsSaturatedCode format f mode (finite negative n) code status
  saturated_code_is =
      record {
        own = code;
        own_fits = subst (λ (bits : ℕ). code < 2 ^ bits) (sym has.bits) below;
        is_own = own;
        code_is = stays;
      }

  pub stored_by : (overflow : Overflow) → IsStoredBy overflow format f mode (finite negative n) code status
  stored_by Rounded = own
  stored_by Saturated = saturated_code_is
  stored_by (Finite nans) = saturated_code_is

-- ---- from bits

-- the code of the number that the bits encode
pub stored_bits : (overflow : Overflow) (format : StoredFormat) (c : Constants) (s : StorageConstants) (mode : Round)
    (x code status : ℕ) (loses : Bool) → HasConstants format s → IsWordSource c s
    → (biased_of c x ≡ 2 ^ c.exp_bits - 1 → ⊥) → code < 2 ^ s.bits
    → IsInto s (format_with c) mode (datum_of (format_with c) (layout_with c) x) code status loses
    → (bit_and status 4 ≡ 0) ⊎ (code ≡ cond (is_minus c x) (2 ^ (s.bits - 1)) 0 + (2 ^ (s.bits - 1) - 1))
    → IsStoredBy overflow format (format_with c) mode (datum_of (format_with c) (layout_with c) x) code status
stored_bits overflow format c s mode x code status loses has source number below into past =
    let read = number_read c x source.nonfinite source.implied number in
    subst (λ (y : Datum). IsStoredBy overflow format (format_with c) mode y code status) (sym read)
    (stored_by format s (format_with c) mode (is_minus c x) (significand_of c x * 2 ^ (biased_of c x - 1)) code status
    loses has below
    (subst (λ (y : Datum). IsInto s (format_with c) mode y code status loses) read into) past overflow)
