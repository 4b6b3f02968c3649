-- Codes of `e3m4` that are results of conversions into its format.
use Rattle.std.proofs.Common.{◌≡◌, ℕ, ◌*◌, ◌^◌, ◌<◌, ◌⊎◌, Bool, true, false, cond, not, eqb, ltb, sym, refl, ap, ◌∙◌}
use Rattle.std.proofs.Common.{subst, inl, inr, ⊎_elim, lit<, List, Option, Some, None}
use Rattle.std.proofs.Math.Path.{subst₂, subst₃}
use Rattle.std.specs.{Bool.MatchBool, Int.RustNames.bit_and, Prelude.IfSome, Prelude.slice_get}
use Rattle.apfloat_model.specs.arithmetic.Conversions.{IsConvertedNumber, IsKept, loses_zero_sign}
use Rattle.apfloat_model.specs.{formats.Nan.is_signaling, rounding.Rounding.is_tiny, rounding.Rounding.leads_out}
use Rattle.rustc_apfloat.specs.{declared.Round.Round, Classes.is_finite, Classes.is_nan, Classes.is_negative}
use Rattle.rustc_apfloat.specs.{Conversions.IsConversion, Datum.Datum, Datum.finite, Datum.infinite, Datum.nan}
use Rattle.rustc_apfloat.specs.{Flags.bits_of, Format.Format, Lawful.Constants, Lawful.format_with}
use Rattle.rustc_apfloat.specs.{Lawful.layout_with, Layout.datum_of}
use Rattle.small_formats.specs.Float8E3M4.{e3m4_datum, e3m4_format}
use Rattle.small_formats.specs.declared.saturation.FiniteNan.{FiniteNan, TheVariants.Kept, TheVariants.Largest}
use Rattle.small_formats.specs.declared.saturation.Overflow.{Overflow}
use Rattle.small_formats.specs.declared.saturation.Overflow.TheVariants.{Rounded, Saturated, Finite}
use Rattle.small_formats.specs.saturation.Saturation.{IsConversionBy, IsFiniteNan, IsSaturatedConversion, saturated}
use Rattle.small_formats.proofs.NarrowCodes.{e3m4_code_once, quanta_finite}
use Rattle.apfloat_arrays.specs.{Blocks.IsBlock, Bytes.number_of, Values.IsAnswerAt, Values.IsConvertedBy}
use Rattle.apfloat_arrays.specs.declared.counts.{Counts.Counts, Outcome.Outcome}
use Rattle.apfloat_arrays.specs.declared.stored.{array.StoreCall.StoreCall, formats.StoredFormat.StoredFormat}
use Rattle.apfloat_arrays.specs.declared.stored.formats.StoredFormat.TheVariants.{E3M4}
use Rattle.apfloat_arrays.specs.stored.{Arrays.IsStoredAs, Arrays.IsStoredIn, Formats.largest_code}
use Rattle.apfloat_arrays.specs.stored.NumberArrays.{AreSinglesInto, AreStored, e3m4_constants}
use Rattle.apfloat_arrays.specs.stored.Stored.{IsFiniteNanCode, IsSaturatedCode, IsStoredBy}
use Rattle.apfloat_arrays.proofs.stored_lemmas.Numbers.{no_overflow}

-- ---- overflow

no_bit : (b : Bool) (flags : ℕ) → bit_and flags 4 ≡ 0 → bit_and (cond b flags 0) 4 ≡ 0
no_bit true flags e = e
no_bit false flags e = refl

-- a rounded number is finite, without OVERFLOW, or an infinity, with that flag
abbrev HasFlag : Bool → Datum → ℕ → Type 0
HasFlag b rounded status =
    ((is_finite rounded ≡ true) × (bit_and status 4 ≡ 0)) ⊎ ((rounded ≡ infinite b) × (status ≡ 20))

delivered_flag : (b past leads none exact tiny : Bool) (pick status : ℕ) (rounded : Datum)
    → rounded ≡ cond past (cond leads (infinite b) (finite b 992)) (cond none (finite b 0) (finite b pick))
    → status ≡ cond past (cond leads 20 16) (cond exact 0 (cond tiny 24 16)) → HasFlag b rounded status
delivered_flag b true true none exact tiny pick status rounded v s = inr (v, s)
delivered_flag b true false none exact tiny pick status rounded v s =
    inl (ap is_finite v, ap (λ (n : ℕ). bit_and n 4) s)
delivered_flag b false leads none exact tiny pick status rounded v s =
    inl (ap is_finite v ∙ quanta_finite none b pick, ap (λ (n : ℕ). bit_and n 4) s ∙ no_overflow exact tiny)

number_flag : (f : Format) (mode : Round) (b : Bool) (n : ℕ) (rounded : Datum) (status : ℕ) (loses : Bool)
    → IsConversion f e3m4_format mode (finite b n) rounded status loses → HasFlag b rounded status
number_flag f mode b n rounded status loses h = either (eqb n 0) h
  where
    either : (none : Bool)
        → MatchBool none (IsKept (finite b 0) (loses_zero_sign e3m4_format b) rounded status loses)
        (IsConvertedNumber f e3m4_format mode b n rounded status loses) → HasFlag b rounded status
    either true k =
        inl (
          ap is_finite k.value_is,
          ap (λ (m : ℕ). bit_and m 4) k.status_is ∙ no_bit (loses_zero_sign e3m4_format b) 16 refl,
        )
    either false k =
        let d = k.is_delivered in
        delivered_flag b (ltb 992 d.pick) (leads_out mode b) (eqb d.pick 0) (eqb (d.pick * 2 ^ f.scale) (n * 2 ^ 6))
        (is_tiny e3m4_format mode b (n * 2 ^ 6) (2 ^ f.scale) d.pick) d.pick status rounded d.value_is d.status_is

-- ---- codes

-- what means the largest number of a sign is its code
largest_is : (b : Bool) (code : ℕ) → code < 256 → e3m4_datum code ≡ finite b 992 → code ≡ largest_code E3M4 b
largest_is true code below is = e3m4_code_once code 239 below (lit< tt) is
largest_is false code below is = e3m4_code_once code 111 below (lit< tt) is

-- the code of what is rounded, or the largest number's if that overflowed
coded : (f : Format) (mode : Round) (x rounded : Datum) (own code status : ℕ) (loses : Bool) → own < 256
    → e3m4_datum own ≡ rounded → IsConversion f e3m4_format mode x rounded status loses
    → code ≡ cond (not (eqb (bit_and status 4) 0)) (largest_code E3M4 (is_negative x)) own
    → IsSaturatedCode E3M4 f mode x code status
coded f mode x rounded own code status loses below is h at = record {
  own = own;
  own_fits = below;
  is_own = record
      { loses = loses; is_stored = subst (λ (d : Datum). IsConversion f e3m4_format mode x d status loses) (sym is) h };
  code_is = at;
}

-- without OVERFLOW it stays
stays : (status code largest : ℕ) → bit_and status 4 ≡ 0 → code ≡ cond (not (eqb (bit_and status 4) 0)) largest code
stays status code largest none = sym (ap (λ (m : ℕ). cond (not (eqb m 0)) largest code) none)

out : (f : Format) (mode : Round) (b : Bool) (n code : ℕ) (loses : Bool) → code ≡ largest_code E3M4 b
    → IsConversion f e3m4_format mode (finite b n) (infinite b) 20 loses
    → IsSaturatedCode E3M4 f mode (finite b n) code 20
out f mode true n code loses at h = coded f mode (finite true n) (infinite true) 240 code 20 loses (lit< tt) refl h at
out f mode false n code loses at h =
    coded f mode (finite false n) (infinite false) 112 code 20 loses (lit< tt) refl h at

saturated_is : (f : Format) (mode : Round) (x : Datum) (code status : ℕ) (loses : Bool) → code < 256
    → IsSaturatedConversion f e3m4_format mode x (e3m4_datum code) status loses
    → IsSaturatedCode E3M4 f mode x code status
saturated_is f mode (nan b s) code status loses below h =
    coded f mode (nan b s) h.rounded code code status loses below h.value_is h.is_conversion
    (stays status code _
    (ap (λ (n : ℕ). bit_and n 4) h.is_conversion.status_is ∙ no_bit (is_signaling f s) 1 refl))
saturated_is f mode (infinite b) code status loses below h =
    coded f mode (infinite b) h.rounded code code status loses below h.value_is h.is_conversion
    (stays status code _ (ap (λ (n : ℕ). bit_and n 4) h.is_conversion.status_is))
saturated_is f mode (finite b n) code status loses below h =
    ⊎_elim {C = IsSaturatedCode E3M4 f mode (finite b n) code status}
    (λ (number : (is_finite h.rounded ≡ true) × (bit_and status 4 ≡ 0)).
    coded f mode (finite b n) h.rounded code code status loses below
    (h.value_is ∙ ap (λ (t : Bool). cond (not t) (finite b 992) h.rounded) number.0) h.is_conversion
    (stays status code _ number.1))
    (λ (past : (h.rounded ≡ infinite b) × (status ≡ 20)).
    subst (λ (m : ℕ). IsSaturatedCode E3M4 f mode (finite b n) code m) (sym past.1)
    (out f mode b n code loses
    (largest_is b code below (h.value_is ∙ ap (saturated e3m4_format (finite b n)) past.0))
    (subst₂ (λ (d : Datum) (m : ℕ). IsConversion f e3m4_format mode (finite b n) d m loses) past.0 past.1
    h.is_conversion)))
    (number_flag f mode b n h.rounded status loses h.is_conversion)

-- what becomes of a NaN where only finite values are wanted
nan_is : (nans : FiniteNan) (f : Format) (mode : Round) (b : Bool) (s code status : ℕ) (loses : Bool) → code < 256
    → IsFiniteNan nans f e3m4_format mode b s (e3m4_datum code) status loses
    → IsFiniteNanCode nans E3M4 f mode (nan b s) code status
nan_is Kept f mode b s code status loses below h = record { loses = loses; is_stored = h }
nan_is Largest f mode b s code status loses below h =
    record { code_is = largest_is false code below h.value_is; status_is = h.status_is }

-- a conversion to what a code means, with any treatment of overflow
stored_by : (overflow : Overflow) (f : Format) (mode : Round) (x : Datum) (code status : ℕ) (loses : Bool)
    → code < 256 → IsConversionBy overflow f e3m4_format mode x (e3m4_datum code) status loses
    → IsStoredBy overflow E3M4 f mode x code status
stored_by Rounded f mode x code status loses below h = record { loses = loses; is_stored = h }
stored_by Saturated f mode x code status loses below h = saturated_is f mode x code status loses below h
stored_by (Finite nans) f mode (nan b s) code status loses below h = nan_is nans f mode b s code status loses below h
stored_by (Finite nans) f mode (infinite b) code status loses below h =
    record { code_is = largest_is b code below h.value_is; status_is = h.status_is }
stored_by (Finite nans) f mode (finite b n) code status loses below h =
    saturated_is f mode (finite b n) code status loses below h

-- ---- values

answer_stored : (overflow : Overflow) (c : Constants) (mode : Round) (bits code : ℕ) (outcome : Outcome)
    → IsAnswerAt overflow c e3m4_constants mode bits code outcome → IsStoredAs overflow c E3M4 mode bits code outcome
answer_stored overflow c mode bits code outcome it =
    let x = datum_of (format_with c) (layout_with c) bits in
    let below = it.is_encoded.below in
    let is = it.is_encoded.is in
    record {
      is_stored =
          stored_by overflow (format_with c) mode x code (bits_of outcome.status) it.loses below
          (subst (λ (d : Datum). IsConversionBy overflow (format_with c) e3m4_format mode
          (datum_of (format_with c) (layout_with c) bits) d (bits_of outcome.status) it.loses) (sym is)
          it.is_conversion);
      fits = below;
      nan_is = it.nan_is ∙ ap is_nan (sym is);
    }

-- the singles of a block, converted to the format, are stored
pub block_stored : (c : Constants) (call : StoreCall) (output : List ℕ) (counts : Counts)
    → AreSinglesInto c call.width call.target → call.count ≡ 64
    → IsBlock (IsConvertedBy call.overflow c e3m4_constants call.round) 4 1 64 call.input.now output counts
    → AreStored c call output counts
block_stored c call output counts singles count block =
    subst₃
    (λ (t : StoredFormat) (w n : ℕ). IsBlock (IsStoredIn call.overflow c t call.round) w 1 n call.input.now output
    counts) (sym singles.e3m4) (sym singles.bytes) (sym count)
    (record {
      outcomes = block.outcomes;
      size = block.size;
      each = λ k. stored (slice_get block.outcomes k) _ _ (block.each k);
      counted = block.counted;
    })
  where
    stored : (found : Option Outcome) (input bytes : List ℕ)
        → IfSome found (λ o. IsConvertedBy call.overflow c e3m4_constants call.round input bytes o)
        → IfSome found (λ o. IsStoredIn call.overflow c E3M4 call.round input bytes o)
    stored (Some o) input bytes h = answer_stored call.overflow c call.round (number_of input) (number_of bytes) o h
    stored None input bytes h = h
