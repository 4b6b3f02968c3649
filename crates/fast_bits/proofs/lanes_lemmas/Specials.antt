-- Infinities and NaNs of singles, read from their bits, and their conversions.
use Rattle.std.proofs.Common.{◌≡◌, ℕ, ◌+◌, ◌-◌, ◌*◌, ◌/◌, ◌%◌, ◌^◌, ◌<◌, ◌≤◌, Bool, true, false, cond, not, ◌&&◌, ◌||◌}
use Rattle.std.proofs.Common.{eqb, leb, ltb, refl, sym, ap, ◌∙◌, subst, ⊎_elim, arith, pos, ◌-ℤ◌}
use Rattle.std.proofs.Math.{Arith.mod-mul, Nat.div-div-eq-div-mul, Nat.div-lt_iff_lt-mul, Nat.le-div_iff_mul-le}
use Rattle.std.proofs.Math.Nat.{min-eq_right, mod-eq_of_lt, mod-lt, mul-le-mul_right, pow-le-pow_right}
use Rattle.std.proofs.lemmas.Int.{ints}
use Rattle.std.proofs.lemmas.Nat.{and_mask, div-mul-add, le-div, or_block, or_disjoint, pow-add, pow_pos, Bits.and_pow}
use Rattle.std.proofs.lemmas.Bool.{cases_eq, cases_lt, cond-false, eq-eqb, le-leb, le-ltb, lt-ltb, ne_eqb, true≢false}
use Rattle.std.specs.Int.{RustNames.bit_and, RustNames.bit_or, Bits.and_zero_r, Bits.or_zero_l, Bits.or_zero_r}
use Rattle.apfloat_model.specs.{order.Classes.is_nan, rounding.Rounding.leads_out}
use Rattle.apfloat_model.specs.arithmetic.Conversions.{converted_nan, has_infinities, nan_loses, places_out}
use Rattle.apfloat_model.specs.bits.{Interchange.IsInterchange, Layout.IsEncodedBy}
use Rattle.apfloat_model.specs.bits.Layout.{Layout, all_ones, datum_of, datum_of_fields, implied_datum, trailing_bits}
use Rattle.apfloat_model.specs.declared.kinds.NonfiniteBehavior.{NonfiniteBehavior}
use Rattle.apfloat_model.specs.declared.kinds.NonfiniteBehavior.TheVariants.{IEEE754, NanOnly, NanNegativeZero}
use Rattle.apfloat_model.specs.declared.kinds.Round.{Round}
use Rattle.apfloat_model.specs.formats.{Format.quiet_bits_of, Nan.invalid_if, Datum.Datum, Datum.infinite, Datum.nan}
use Rattle.apfloat_model.specs.formats.Format.{Format, nan_base, nan_base_of, payload_mask, payload_mask_of, quiet_bits}
use Rattle.apfloat_model.specs.formats.Nan.{is_signaling, nan_sign, quiet_bit, quiet_bit_of, quiet_significand, quieted}
use Rattle.apfloat_model.specs.rounding.{Rounding.past_largest, Rounding.raises_overflow, RoundingToOdd.odd_quotient}
use Rattle.apfloat_model.proofs.{bits.EncodedOnce.encoded_once, bits.EncodedOnce.fields_with, general.Powers.two_pos}
use Rattle.apfloat_model.proofs.rounding.FarMagnitudes.{IsFarAbove, picks_past}
use Rattle.fast_bits.specs.{declared.lanes.lanes.Lane.Lane, declared.lanes.constants.Target.Target, lanes.At.format_at}
use Rattle.fast_bits.specs.lanes.Lanes.{IsPastLane, IsRounded, IsPayload, IsSpecialLane, flag_if, flags_of}
use Rattle.fast_bits.specs.lanes.Targets.{IsSingleFormat, has_no_sign, is_ieee, largest_code, signed_code}
use Rattle.fast_bits.proofs.lanes_lemmas.{Cuts.exact_odd, Cuts.inexact_odd, Singles.place_of, Singles.significand_of}
use Rattle.fast_bits.proofs.lanes_lemmas.Answers.{digits_encoded, keeps_sign, past_given}

-- ---- the lane of a number past the largest value

-- a magnitude from 2 ^ 128 on is past all values
pub far_single : (f : Format) (significand : ℕ) → f.precision + f.span ≤ f.scale + 128 → 2 ^ 23 ≤ significand
    → IsFarAbove f (significand * 2 ^ 254 * 2 ^ f.scale) (2 ^ 149)
far_single f significand below full =
    let top : 2 ^ (f.precision + f.span) ≤ 2 ^ (f.scale + 128) = pow-le-pow_right two_pos below in
    let first = mul-le-mul_right (2 ^ 149) top in
    let parts : 2 ^ (f.scale + 128) ≡ 2 ^ f.scale * 2 ^ 128 = pow-add 2 f.scale 128 in
    let same : 2 ^ f.scale * 2 ^ 128 * 2 ^ 149 ≡ 2 ^ 23 * 2 ^ 254 * 2 ^ f.scale = omega arith in
    let second : 2 ^ 23 * 2 ^ 254 ≤ significand * 2 ^ 254 = mul-le-mul_right (2 ^ 254) full in
    let last = mul-le-mul_right (2 ^ f.scale) second in
    let moved : 2 ^ (f.scale + 128) * 2 ^ 149 ≡ 2 ^ f.scale * 2 ^ 128 * 2 ^ 149 = ap (λ (n : ℕ). n * 2 ^ 149) parts in
    record { some = pow_pos 149; from = omega (arith, first, moved, same, last) }

flag_most : (flag : ℕ) (holds : Bool) → flag_if flag holds ≤ flag
flag_most flag true = omega arith
flag_most flag false = omega arith

-- the flags of a number past the largest value, by their sum
past_flags : (inexact underflow overflow invalid raises : Bool)
    → flag_if 16 inexact + flag_if 8 underflow + flag_if 4 overflow + flag_if 1 invalid ≡ cond raises 20 16
    → (inexact ≡ true) × (underflow ≡ false) × (invalid ≡ false)
past_flags true false overflow false raises e = (refl, refl, refl)
past_flags true false true true true e = absurd (omega (arith, e))
past_flags true false true true false e = absurd (omega (arith, e))
past_flags true false false true true e = absurd (omega (arith, e))
past_flags true false false true false e = absurd (omega (arith, e))
past_flags true true overflow invalid true e = absurd (omega (arith, e))
past_flags true true overflow invalid false e = absurd (omega (arith, e))
past_flags false underflow overflow invalid true e =
    absurd (omega (arith, e, flag_most 8 underflow, flag_most 4 overflow, flag_most 1 invalid))
past_flags false underflow overflow invalid false e =
    absurd (omega (arith, e, flag_most 8 underflow, flag_most 4 overflow, flag_most 1 invalid))

pub past_lane : (f : Format) (layout : Layout) (mode : Round) (negative : Bool) (amount parts : ℕ) (lane : Lane)
    → 0 < f.precision → leads_out mode negative ≡ true → IsFarAbove f amount parts
    → IsRounded false f layout mode negative amount parts lane → IsPastLane f layout negative lane
past_lane f layout mode negative amount parts lane some out far it =
    let past = picks_past f mode negative amount parts it.is_delivered.pick some far it.is_delivered.is_pick in
    let value : it.rounded ≡ past_largest f.nonfinite (nan_base f) negative =
    it.is_delivered.value_is ∙ rw (past, out) refl in
    let status : flags_of lane ≡ cond (raises_overflow f mode negative) 20 16 =
    it.is_delivered.status_is ∙ rw past refl in
    let flags = past_flags lane.inexact lane.underflow lane.overflow lane.invalid (raises_overflow f mode negative)
    status in
    record {
      inexact = flags.0;
      underflow = flags.1;
      invalid = flags.2;
      is_encoded = subst (λ (x : Datum). IsEncodedBy f layout lane.bits x) value it.is_encoded;
      nan_is = it.nan_is ∙ ap is_nan value;
    }

-- the lane of an infinity or a NaN, taken for a number with the exponent after the greatest one
pub past_single : (saturates : Bool) (f : Format) (layout : Layout) (mode : Round) (negative : Bool) (a : ℕ)
    (lane : Lane) → f.precision + f.span ≤ f.scale + 128 → 0 < f.precision → saturates ≡ false
    → leads_out mode negative ≡ true → 255 * 2 ^ 23 ≤ a → a < 2 ^ 31
    → IsRounded saturates f layout mode negative (significand_of a * 2 ^ place_of a * 2 ^ f.scale) (2 ^ 149) lane
    → IsPastLane f layout negative lane
past_single saturates f layout mode negative a lane reach some kept out high below it =
    let place : place_of a ≡ 254 = omega (arith, high, below) in
    let least : 1 ≤ a / 2 ^ 23 = omega (arith, high) in
    past_lane f layout mode negative (significand_of a * 2 ^ 254 * 2 ^ f.scale) (2 ^ 149) lane some out
    (far_single f (significand_of a) reach (omega (arith, min-eq_right least)))
    (subst (λ (b : Bool). IsRounded b f layout mode negative (significand_of a * 2 ^ 254 * 2 ^ f.scale) (2 ^ 149) lane)
    kept
    (subst (λ (n : ℕ). IsRounded saturates f layout mode negative (significand_of a * 2 ^ n * 2 ^ f.scale) (2 ^ 149)
    lane)
    place it))

-- a target's numbers are below 2 ^ 128
pub target_reach : (t : Target) → (format_at t).precision + (format_at t).span ≤ (format_at t).scale + 128
target_reach t =
    let precise = t.lawful.precise in
    let low = t.lawful.below in
    let scale : pos (format_at t).scale ≡ pos (t.precision - 1) -ℤ t.min_exp = omega (arith, ints, precise, low) in
    let span : pos (format_at t).span ≡ t.max_exp -ℤ t.min_exp = omega (arith, ints, t.lawful.order) in
    omega (arith, ints, scale, span, t.lawful.greatest, precise)

-- ---- from bits

abbrev pub special_datum : Bool → ℕ → Datum
special_datum negative s = cond (eqb s 0) (infinite negative) (nan negative s)

-- the fields of the bits of an infinity or a NaN
pub special_read : (f : Format) (layout : Layout) (x : ℕ) → IsSingleFormat f layout → x < 2 ^ 32
    → 255 * 2 ^ 23 ≤ x % 2 ^ 31 → datum_of f layout x ≡ special_datum (eqb (x / 2 ^ 31) 1) (x % 2 ^ 23)
special_read f layout x single word high =
    let width : trailing_bits f ≡ 23 =
    cond-false f.explicit_integer_bit _ _ single.implied ∙ ap (λ (n : ℕ). n - 1) single.precision in
    let sign : x / 2 ^ (layout.bits - 1) % 2 ≡ x / 2 ^ 31 =
    ap (λ (n : ℕ). x / 2 ^ (n - 1) % 2) single.bits
    ∙ (let e : x / 2 ^ 31 % 2 ≡ x / 2 ^ 31 = omega (arith, word) in e) in
    let biased : x / 2 ^ trailing_bits f % 2 ^ layout.exponent_bits ≡ 255 =
    (λ i. x / 2 ^ width i % 2 ^ single.exponent_bits i)
    ∙ (let e : x / 2 ^ 23 % 2 ^ 8 ≡ 255 = omega (arith, high) in e) in
    let trailing : x % 2 ^ trailing_bits f ≡ x % 2 ^ 23 = ap (λ (n : ℕ). x % 2 ^ n) width in
    let ones : all_ones layout.exponent_bits ≡ 255 = ap all_ones single.exponent_bits in
    (λ i. datum_of_fields f layout (fields_with (eqb (sign i) 1) (biased i) (trailing i)))
    ∙ cond-false f.explicit_integer_bit _ _ single.implied
    ∙ ap (λ (k : NonfiniteBehavior). implied_datum k f layout (fields_with (eqb (x / 2 ^ 31) 1) 255 (x % 2 ^ 23)))
    single.nonfinite ∙ rw ones refl

-- ---- NaNs

-- the bit that makes a single's NaN quiet
single_quiet : (f : Format) (layout : Layout) → IsSingleFormat f layout → quiet_bits f ≡ 2 ^ 22
single_quiet f layout single = (λ i. quiet_bits_of (single.nonfinite i) (single.implied i) (single.precision i))

quiet_bit_set : (s : ℕ) → s < 2 ^ 23 → 2 ^ 22 ≤ s → bit_and s (2 ^ 22) ≡ 2 ^ 22
quiet_bit_set s below set = and_pow s 22 ∙ (let e : s / 2 ^ 22 % 2 * 2 ^ 22 ≡ 2 ^ 22 = omega (arith, below, set) in e)

quiet_bit_clear : (s : ℕ) → s < 2 ^ 22 → bit_and s (2 ^ 22) ≡ 0
quiet_bit_clear s below = and_pow s 22 ∙ (let e : s / 2 ^ 22 % 2 * 2 ^ 22 ≡ 0 = omega (arith, below) in e)

signaling_is : (f : Format) (layout : Layout) (s : ℕ) → IsSingleFormat f layout → s < 2 ^ 23
    → is_signaling f s ≡ ltb s (2 ^ 22)
signaling_is f layout s single below =
    ap (λ (q : ℕ). not (eqb (bit_and s q) q)) (single_quiet f layout single)
    ∙ ⊎_elim {C = not (eqb (bit_and s (2 ^ 22)) (2 ^ 22)) ≡ ltb s (2 ^ 22)}
    (λ (l : s < 2 ^ 22).
    let clear = quiet_bit_clear s l in
    ap not (ne_eqb (bit_and s (2 ^ 22)) (2 ^ 22) (λ e. omega (arith, e, clear))) ∙ sym (lt-ltb s (2 ^ 22) l))
    (λ (l : 2 ^ 22 ≤ s).
    ap not (eq-eqb (bit_and s (2 ^ 22)) (2 ^ 22) (quiet_bit_set s below l)) ∙ sym (le-ltb s (2 ^ 22) l))
    (cases_lt s (2 ^ 22))

pub quieted_is : (f : Format) (layout : Layout) (s : ℕ) → IsSingleFormat f layout → s < 2 ^ 23
    → quieted f s ≡ s % 2 ^ 22 + 2 ^ 22
quieted_is f layout s single below =
    let quiet : quiet_bit f ≡ 2 ^ 22 = (λ i. quiet_bit_of (single.nonfinite i) (single.precision i)) in
    (λ i. cond (signaling_is f layout s single below i) (bit_or s (quiet i)) s)
    ∙ ⊎_elim {C = cond (ltb s (2 ^ 22)) (bit_or s (2 ^ 22)) s ≡ s % 2 ^ 22 + 2 ^ 22}
    (λ (l : s < 2 ^ 22).
    ap (λ (b : Bool). cond b (bit_or s (2 ^ 22)) s) (lt-ltb s (2 ^ 22) l)
    ∙ or_disjoint s (2 ^ 22) (quiet_bit_clear s l)
    ∙ (let e : s + 2 ^ 22 ≡ s % 2 ^ 22 + 2 ^ 22 = omega (arith, l) in e))
    (λ (l : 2 ^ 22 ≤ s).
    ap (λ (b : Bool). cond b (bit_or s (2 ^ 22)) s) (le-ltb s (2 ^ 22) l)
    ∙ (let e : s ≡ s % 2 ^ 22 + 2 ^ 22 = omega (arith, l, below) in e))
    (cases_lt s (2 ^ 22))

-- the first digits of a quiet NaN's significand: the first of them is set
pub record AreQuietDigits (precision d : ℕ) : Type 0 where
  pub from : 2 ^ (precision - 2) ≤ d
  pub below : d < 2 ^ (precision - 1)

digits_are : (precision s : ℕ) → 3 ≤ precision → precision ≤ 11
    → AreQuietDigits precision ((s % 2 ^ 22 + 2 ^ 22) / 2 ^ (24 - precision))
digits_are precision s precise few =
    let some : 0 < 2 ^ (24 - precision) = pow_pos (24 - precision) in
    let low : 2 ^ (precision - 2) * 2 ^ (24 - precision) ≡ 2 ^ 22 =
    sym (pow-add 2 (precision - 2) (24 - precision))
    ∙ (let e : precision - 2 + (24 - precision) ≡ 22 = omega (arith, precise, few) in ap (λ (n : ℕ). 2 ^ n) e) in
    let high : 2 ^ (precision - 1) * 2 ^ (24 - precision) ≡ 2 ^ 23 =
    sym (pow-add 2 (precision - 1) (24 - precision))
    ∙ (let e : precision - 1 + (24 - precision) ≡ 23 = omega (arith, precise, few) in ap (λ (n : ℕ). 2 ^ n) e) in
    record {
      from = le-div (2 ^ (precision - 2)) (s % 2 ^ 22 + 2 ^ 22) (2 ^ (24 - precision)) some (omega (arith, low));
      below = (div-lt_iff_lt-mul {x = s % 2 ^ 22 + 2 ^ 22} {y = 2 ^ (precision - 1)} some).1 (omega (arith, high));
    }

-- they are a quiet NaN's significand
quiet_is : (g : Format) (d : ℕ) → g.nonfinite ≡ IEEE754 → g.explicit_integer_bit ≡ false → 3 ≤ g.precision
    → AreQuietDigits g.precision d → quiet_significand g d ≡ d
quiet_is g d kind implied precise it =
    let p = g.precision in
    let unit : ℕ = 2 ^ (g.precision - 2) in
    let twice : 2 ^ (g.precision - 1) ≡ 2 * 2 ^ (g.precision - 2) =
    (let e : g.precision - 1 ≡ 1 + (g.precision - 2) = omega (arith, precise) in ap (λ (n : ℕ). 2 ^ n) e)
    ∙ pow-add 2 1 (g.precision - 2) in
    let from = it.from in
    let below = it.below in
    let parts : d ≡ 1 * 2 ^ (g.precision - 2) + (d - 2 ^ (g.precision - 2)) = omega (arith, from) in
    let one : 2 ^ (g.precision - 2) ≡ 1 * 2 ^ (g.precision - 2) + 0 = omega arith in
    (λ i. bit_or (bit_or (nan_base_of (kind i) p) (quiet_bits_of (kind i) (implied i) p))
    (bit_and d (payload_mask_of (kind i) p))) ∙ (λ i. bit_or (or_zero_l unit i) (and_mask d (p - 1) i))
    ∙ ap (bit_or unit) (mod-eq_of_lt below) ∙ (λ i. bit_or (one i) (parts i))
    ∙ or_block (p - 2) 1 1 0 (d - unit) (pow_pos (p - 2)) (omega (arith, from, below, twice))
    ∙ (λ i. 1 * unit + or_zero_l (d - unit) i)
    ∙ sym parts

-- what a single's NaN becomes, if there are infinities too
nan_of_digits : (f g : Format) (layout : Layout) (negative : Bool) (s : ℕ) → IsSingleFormat f layout → s < 2 ^ 23
    → g.nonfinite ≡ IEEE754 → g.explicit_integer_bit ≡ false → 3 ≤ g.precision → g.precision ≤ 11
    → converted_nan f g negative s ≡ nan negative ((s % 2 ^ 22 + 2 ^ 22) / 2 ^ (24 - g.precision))
nan_of_digits f g layout negative s single below kind implied precise few =
    let d = (s % 2 ^ 22 + 2 ^ 22) / 2 ^ (24 - g.precision) in
    let none : g.precision - 24 ≡ 0 = omega (arith, few) in
    let whole : (s % 2 ^ 22 + 2 ^ 22) * 2 ^ 0 ≡ s % 2 ^ 22 + 2 ^ 22 = omega arith in
    let mask : payload_mask f ≡ 2 ^ 23 - 1 = (λ i. payload_mask_of (single.nonfinite i) (single.precision i)) in
    let out : places_out f g ≡ 24 - g.precision = (λ i. cond (eqb (mask i) 0) 0 (single.precision i - g.precision)) in
    let shift : g.precision - f.precision ≡ 0 = ap (λ (n : ℕ). g.precision - n) single.precision ∙ none in
    let payload : quieted f s * 2 ^ (g.precision - f.precision) / 2 ^ places_out f g ≡ d =
    (λ i. quieted_is f layout s single below i * 2 ^ shift i / 2 ^ out i)
    ∙ ap (λ (n : ℕ). n / 2 ^ (24 - g.precision)) whole in
    (λ i. nan (nan_sign (kind i) negative) (quiet_significand g (payload i)))
    ∙ ap (nan negative) (quiet_is g d kind implied precise (digits_are g.precision s precise few))

-- what it becomes where one NaN stands for all
one_nan : (kind : NonfiniteBehavior) (f g : Format) (negative : Bool) (s : ℕ) → g.nonfinite ≡ kind
    → is_ieee kind ≡ false → converted_nan f g negative s ≡ past_largest g.nonfinite (nan_base g) negative
one_nan IEEE754 f g negative s is none = absurd (true≢false none)
one_nan NanOnly f g negative s is none =
    let y = quieted f s * 2 ^ (g.precision - f.precision) / 2 ^ places_out f g in
    let base = nan_base_of NanOnly g.precision in
    (λ i. nan (nan_sign (is i) negative)
    (bit_or (bit_or (nan_base_of (is i) g.precision) (quiet_bits_of (is i) g.explicit_integer_bit g.precision))
    (bit_and y (payload_mask_of (is i) g.precision))))
    ∙ ap (nan negative) ((λ i. bit_or (or_zero_r base i) (and_zero_r y i)) ∙ or_zero_r base)
    ∙ (λ i. past_largest (sym is i) (nan_base_of (sym is i) g.precision) negative)
one_nan NanNegativeZero f g negative s is none =
    let y = quieted f s * 2 ^ (g.precision - f.precision) / 2 ^ places_out f g in
    (λ i. nan (nan_sign (is i) negative)
    (bit_or (bit_or (nan_base_of (is i) g.precision) (quiet_bits_of (is i) g.explicit_integer_bit g.precision))
    (bit_and y (payload_mask_of (is i) g.precision))))
    ∙ ap (nan false) ((λ i. bit_or (or_zero_r 0 i) (and_zero_r y i)) ∙ or_zero_r 0)
    ∙ (λ i. past_largest (sym is i) (nan_base_of (sym is i) g.precision) negative)

-- ---- lanes

-- the first digits of a single's trailing significand, made quiet
abbrev pub quiet_digits : ℕ → ℕ → ℕ
quiet_digits precision s = (s % 2 ^ 22 + 2 ^ 22) / 2 ^ (24 - precision)

-- the lane of an infinity or a NaN, by that of a number past the largest value, and the digits of the NaN
abbrev pub with_special : NonfiniteBehavior → ℕ → Lane → Bool → Bool → ℕ → Lane
with_special kind digits lane special one payload =
    record {
      bits = cond (one && is_ieee kind) (lane.bits + digits) lane.bits;
      inexact = not (special && (one || is_ieee kind)) && lane.inexact;
      underflow = lane.underflow;
      overflow = not special && lane.overflow;
      invalid = (one && ltb payload (2 ^ 15)) || lane.invalid;
      is_nan = (one && is_ieee kind) || lane.is_nan;
    }

infinity_flags : (kind : NonfiniteBehavior) (lane : Lane) (digits payload : ℕ) → lane.inexact ≡ true
    → lane.underflow ≡ false → lane.invalid ≡ false
    → flags_of (with_special kind digits lane true false payload) ≡ cond (not (has_infinities kind)) 16 0
infinity_flags IEEE754 lane digits payload inexact underflow invalid = rw (underflow, invalid) refl
infinity_flags NanOnly lane digits payload inexact underflow invalid = rw (inexact, underflow, invalid) refl
infinity_flags NanNegativeZero lane digits payload inexact underflow invalid = rw (inexact, underflow, invalid) refl

nan_flags : (kind : NonfiniteBehavior) (lane : Lane) (digits payload : ℕ) (signaling : Bool)
    → ltb payload (2 ^ 15) ≡ signaling → lane.underflow ≡ false → lane.invalid ≡ false
    → flags_of (with_special kind digits lane true true payload) ≡ invalid_if signaling
nan_flags kind lane digits payload true is underflow invalid = rw (underflow, is) refl
nan_flags kind lane digits payload false is underflow invalid = rw (underflow, is, invalid) refl

module _ (f : Format) (read : Layout) (g : Format) (layout : Layout) (mode : Round) (x payload : ℕ) (lane : Lane)
    (single : IsSingleFormat f read) (law : IsInterchange g layout) (implied : g.explicit_integer_bit ≡ false)
    (few : g.precision ≤ 11) (word : x < 2 ^ 32) (high : 255 * 2 ^ 23 ≤ x % 2 ^ 31)
    (past : IsPastLane g layout (eqb (x / 2 ^ 31) 1) lane) where
  abbrev pub Becomes : Lane → Type 0
  Becomes one = IsSpecialLane f read g layout mode x one

  abbrev pub digits : ℕ
  digits = quiet_digits g.precision (x % 2 ^ 23)

  infinity_converted : x % 2 ^ 23 ≡ 0 → Becomes (with_special g.nonfinite digits lane true false payload)
  infinity_converted none = record {
    special = infinite (eqb (x / 2 ^ 31) 1);
    special_is = special_read f read x single word high ∙ rw (eq-eqb (x % 2 ^ 23) 0 none) refl;
    not_finite = refl;
    value = past_largest g.nonfinite (nan_base g) (eqb (x / 2 ^ 31) 1);
    loses = not (has_infinities g.nonfinite);
    is_conversion = record {
      value_is = refl;
      status_is = infinity_flags g.nonfinite lane digits payload past.inexact past.underflow past.invalid;
      loses_is = refl;
    };
    is_encoded = past.is_encoded;
    nan_is = past.nan_is;
  }

  module _ (some : x % 2 ^ 23 ≡ 0 → ⊥) (quiet : ltb payload (2 ^ 15) ≡ ltb (x % 2 ^ 23) (2 ^ 22)) where
    nan_read : datum_of f read x ≡ nan (eqb (x / 2 ^ 31) 1) (x % 2 ^ 23)
    nan_read = special_read f read x single word high ∙ rw (ne_eqb (x % 2 ^ 23) 0 some) refl

    signals : ltb payload (2 ^ 15) ≡ is_signaling f (x % 2 ^ 23)
    signals = quiet ∙ sym (signaling_is f read (x % 2 ^ 23) single (omega arith))

    one_converted : (kind : NonfiniteBehavior) → g.nonfinite ≡ kind → is_ieee kind ≡ false
        → Becomes (with_special kind digits lane true true payload)
    one_converted kind is none = record {
      special = nan (eqb (x / 2 ^ 31) 1) (x % 2 ^ 23);
      special_is = nan_read;
      not_finite = refl;
      value = past_largest g.nonfinite (nan_base g) (eqb (x / 2 ^ 31) 1);
      loses = nan_loses f g (x % 2 ^ 23);
      is_conversion = record {
        value_is = sym (one_nan kind f g (eqb (x / 2 ^ 31) 1) (x % 2 ^ 23) is none);
        status_is =
            nan_flags kind lane digits payload (is_signaling f (x % 2 ^ 23)) signals past.underflow past.invalid;
        loses_is = refl;
      };
      is_encoded = rw none past.is_encoded;
      nan_is = rw none past.nan_is;
    }

    ieee_converted : g.nonfinite ≡ IEEE754 → Becomes (with_special IEEE754 digits lane true true payload)
    ieee_converted is =
        let negative = eqb (x / 2 ^ 31) 1 in
        let precise = law.precise in
        let d = (x % 2 ^ 23 % 2 ^ 22 + 2 ^ 22) / 2 ^ (24 - g.precision) in
        let are = digits_are g.precision (x % 2 ^ 23) precise few in
        let unit = pow_pos (g.precision - 2) in
        let infinity : lane.bits ≡ signed_code g.nonfinite layout.bits negative (largest_code g + 1) =
        encoded_once g layout (past_largest g.nonfinite (nan_base g) negative) lane.bits
        (signed_code g.nonfinite layout.bits negative (largest_code g + 1)) law past.is_encoded
        (past_given g.nonfinite g layout negative refl law implied).is_encoded in
        let signed : signed_code g.nonfinite layout.bits negative (largest_code g + 1)
        ≡ cond negative (2 ^ (layout.bits - 1)) 0 + (largest_code g + 1) =
        ap (λ (n : ℕ). n + (largest_code g + 1))
        (keeps_sign g.nonfinite negative layout.bits (largest_code g + 1)
        (ap (λ (k : NonfiniteBehavior). has_no_sign k layout.bits (largest_code g + 1)) is)) in
        record {
          special = nan negative (x % 2 ^ 23);
          special_is = nan_read;
          not_finite = refl;
          value = nan negative d;
          loses = nan_loses f g (x % 2 ^ 23);
          is_conversion = record {
            value_is = sym (nan_of_digits f g read negative (x % 2 ^ 23) single (omega arith) is implied precise few);
            status_is =
                nan_flags IEEE754 lane digits payload (is_signaling f (x % 2 ^ 23)) signals past.underflow past.invalid;
            loses_is = refl;
          };
          is_encoded =
              digits_encoded g layout negative d (lane.bits + d) law is implied
              (omega (arith, are.from, unit)) are.below (λ i. (infinity ∙ signed) i + d);
          nan_is = refl;
        }

    nan_converted : (kind : NonfiniteBehavior) → g.nonfinite ≡ kind
        → Becomes (with_special kind digits lane true true payload)
    nan_converted IEEE754 is = ieee_converted is
    nan_converted NanOnly is = one_converted NanOnly is refl
    nan_converted NanNegativeZero is = one_converted NanNegativeZero is refl

  -- the lane of a number past the largest value, with what a lane says of an infinity or a NaN
  pub special_converted : (some : Bool) → some ≡ not (eqb (x % 2 ^ 23) 0)
      → ltb payload (2 ^ 15) ≡ ltb (x % 2 ^ 23) (2 ^ 22)
      → Becomes (with_special g.nonfinite digits lane true some payload)
  special_converted some is it =
      ⊎_elim {C = Becomes (with_special g.nonfinite digits lane true some payload)}
      (λ (none : x % 2 ^ 23 ≡ 0).
      let no : some ≡ false = is ∙ ap not (eq-eqb (x % 2 ^ 23) 0 none) in
      subst (λ (b : Bool). Becomes (with_special g.nonfinite digits lane true b payload)) (sym no)
      (infinity_converted none))
      (λ (other : x % 2 ^ 23 ≡ 0 → ⊥).
      let yes : some ≡ true = is ∙ ap not (ne_eqb (x % 2 ^ 23) 0 other) in
      subst (λ (b : Bool). Becomes (with_special g.nonfinite digits lane true b payload)) (sym yes)
      (nan_converted other it g.nonfinite refl))
      (cases_eq (x % 2 ^ 23) 0)

-- ---- what the halves of a word keep of a NaN

-- the same test of two numbers
below_both : (a b m n : ℕ) → (a < m → b < n) → (m ≤ a → n ≤ b) → ltb a m ≡ ltb b n
below_both a b m n forth back =
    ⊎_elim {C = ltb a m ≡ ltb b n} (λ (l : a < m). lt-ltb a m l ∙ sym (lt-ltb b n (forth l)))
    (λ (l : m ≤ a). le-ltb a m l ∙ sym (le-ltb b n (back l)))
    (cases_lt a m)

-- the digits from a given one on, after all that are above it are replaced by a single one
quiet_first : (places unit n : ℕ) → 0 < unit
    → (n % (2 ^ places * unit) + 2 ^ places * unit) / unit ≡ n / unit % 2 ^ places + 2 ^ places
quiet_first places unit n some =
    let sum : n % (2 ^ places * unit) + 2 ^ places * unit ≡ (n / unit % 2 ^ places + 2 ^ places) * unit + n % unit =
    omega (arith, mod-mul n (pow_pos places) some) in
    ap (λ (m : ℕ). m / unit) sum ∙ div-mul-add (n / unit % 2 ^ places + 2 ^ places) unit (n % unit) (mod-lt n some)

-- what sixteen digits tell of a single's trailing significand
module _ (precision s payload : ℕ) (precise : 3 ≤ precision) (few : precision ≤ 11)
    (it : IsPayload precision s payload) where
  word : 2 ^ 15 ≡ 2 ^ (precision - 2) * 2 ^ (17 - precision)
  word =
      (let e : 15 ≡ precision - 2 + (17 - precision) = omega (arith, precise, few) in ap (λ (n : ℕ). 2 ^ n) e)
      ∙ pow-add 2 (precision - 2) (17 - precision)

  single_word : 2 ^ 22 ≡ 2 ^ (precision - 2) * 2 ^ (24 - precision)
  single_word =
      (let e : 22 ≡ precision - 2 + (24 - precision) = omega (arith, precise, few) in ap (λ (n : ℕ). 2 ^ n) e)
      ∙ pow-add 2 (precision - 2) (24 - precision)

  -- its first digits
  pub payload_digits : (payload % 2 ^ 15 + 2 ^ 15) / 2 ^ (17 - precision) ≡ quiet_digits precision s
  payload_digits =
      ap (λ (n : ℕ). (payload % n + n) / 2 ^ (17 - precision)) word
      ∙ quiet_first (precision - 2) (2 ^ (17 - precision)) payload (pow_pos (17 - precision))
      ∙ ap (λ (n : ℕ). n % 2 ^ (precision - 2) + 2 ^ (precision - 2)) it.digits
      ∙ sym (quiet_first (precision - 2) (2 ^ (24 - precision)) s (pow_pos (24 - precision)))
      ∙ sym (ap (λ (n : ℕ). (s % n + n) / 2 ^ (24 - precision)) single_word)

  -- whether the NaN is signaling
  pub payload_quiet : ltb payload (2 ^ 15) ≡ ltb s (2 ^ 22)
  payload_quiet =
      let unit = pow_pos (17 - precision) in
      let single_unit = pow_pos (24 - precision) in
      below_both payload s (2 ^ 15) (2 ^ 22)
      (λ l.
      let first = (div-lt_iff_lt-mul {x = payload} {y = 2 ^ (precision - 2)} unit).1
      (subst (λ (n : ℕ). payload < n) word l) in
      subst (λ (n : ℕ). s < n) (sym single_word)
      ((div-lt_iff_lt-mul {x = s} {y = 2 ^ (precision - 2)} single_unit).0
      (subst (λ (n : ℕ). n < 2 ^ (precision - 2)) it.digits first)))
      (λ l.
      let first = (le-div_iff_mul-le {x = 2 ^ (precision - 2)} {y = payload} unit).1
      (subst (λ (n : ℕ). n ≤ payload) word l) in
      subst (λ (n : ℕ). n ≤ s) (sym single_word)
      ((le-div_iff_mul-le {x = 2 ^ (precision - 2)} {y = s} single_unit).0
      (subst (λ (n : ℕ). 2 ^ (precision - 2) ≤ n) it.digits first)))

-- both halves keep all digits that a target has
pub word_payload : (precision s payload : ℕ) → precision ≤ 11 → payload ≡ s / 2 ^ 7 → IsPayload precision s payload
word_payload precision s payload few is =
    let places : 24 - precision ≡ 7 + (17 - precision) = omega (arith, few) in
    let cut : 2 ^ (24 - precision) ≡ 2 ^ 7 * 2 ^ (17 - precision) =
    ap (λ (n : ℕ). 2 ^ n) places ∙ pow-add 2 7 (17 - precision) in
    record {
      digits =
          ap (λ (n : ℕ). n / 2 ^ (17 - precision)) is ∙ div-div-eq-div-mul s (2 ^ 7) (2 ^ (17 - precision))
          ∙ ap (λ (n : ℕ). s / n) (sym cut);
    }

-- the upper half, rounded to odd, keeps those of a short target
pub half_payload : (precision h x : ℕ) → precision ≤ 6 → h ≡ odd_quotient x (2 ^ 16)
    → IsPayload precision (x % 2 ^ 23) (h % 2 ^ 7 * 2 ^ 9)
half_payload precision h x few is =
    let first : 17 - precision ≡ 11 + (6 - precision) = omega (arith, few) in
    let second : 24 - precision ≡ 18 + (6 - precision) = omega (arith, few) in
    let cut : 2 ^ (17 - precision) ≡ 2 ^ 11 * 2 ^ (6 - precision) =
    ap (λ (n : ℕ). 2 ^ n) first ∙ pow-add 2 11 (6 - precision) in
    let cut_word : 2 ^ (24 - precision) ≡ 2 ^ 18 * 2 ^ (6 - precision) =
    ap (λ (n : ℕ). 2 ^ n) second ∙ pow-add 2 18 (6 - precision) in
    let u = h % 2 ^ 7 * 2 ^ 9 in
    let v = x % 2 ^ 23 in
    let made : h % 2 ^ 7 * 2 ^ 9 / 2 ^ 11 ≡ x % 2 ^ 23 / 2 ^ 18
    → IsPayload precision (x % 2 ^ 23) (h % 2 ^ 7 * 2 ^ 9) =
    λ same. record {
      digits =
          ap (λ (n : ℕ). u / n) cut ∙ sym (div-div-eq-div-mul u (2 ^ 11) (2 ^ (6 - precision)))
          ∙ ap (λ (n : ℕ). n / 2 ^ (6 - precision)) same ∙ div-div-eq-div-mul v (2 ^ 18) (2 ^ (6 - precision))
          ∙ ap (λ (n : ℕ). v / n) (sym cut_word);
    } in
    ⊎_elim {C = IsPayload precision (x % 2 ^ 23) (h % 2 ^ 7 * 2 ^ 9)}
    (λ (none : x % 2 ^ 16 ≡ 0).
    let half : h ≡ x / 2 ^ 16 = is ∙ exact_odd (x / 2 ^ 16) (x % 2 ^ 16) none in made (omega (arith, half)))
    (λ (some : x % 2 ^ 16 ≡ 0 → ⊥).
    let half : h ≡ x / 2 ^ 16 + 1 - x / 2 ^ 16 % 2 = is ∙ inexact_odd (x / 2 ^ 16) (x % 2 ^ 16) some in
    made (omega (arith, half)))
    (cases_eq (x % 2 ^ 16) 0)

-- the upper half tells infinities from NaNs
pub half_nan : (h x : ℕ) → h ≡ odd_quotient x (2 ^ 16) → 255 * 2 ^ 7 ≤ h % 2 ^ 15
    → ltb (255 * 2 ^ 7) (h % 2 ^ 15) ≡ not (eqb (x % 2 ^ 23) 0)
half_nan h x is high =
    let Says : Type 0 = ltb (255 * 2 ^ 7) (h % 2 ^ 15) ≡ not (eqb (x % 2 ^ 23) 0) in
    let by : (h % 2 ^ 15 ≡ 255 * 2 ^ 7 → x % 2 ^ 23 ≡ 0) → (x % 2 ^ 23 ≡ 0 → h % 2 ^ 15 ≡ 255 * 2 ^ 7)
    → Says =
    λ forth back. ⊎_elim {C = Says}
    (λ (none : x % 2 ^ 23 ≡ 0).
    le-ltb (255 * 2 ^ 7) (h % 2 ^ 15) (omega (arith, back none)) ∙ ap not (sym (eq-eqb (x % 2 ^ 23) 0 none)))
    (λ (some : x % 2 ^ 23 ≡ 0 → ⊥).
    let other : h % 2 ^ 15 ≡ 255 * 2 ^ 7 → ⊥ = λ e. some (forth e) in
    lt-ltb (255 * 2 ^ 7) (h % 2 ^ 15) (omega (arith, high, other)) ∙ ap not (sym (ne_eqb (x % 2 ^ 23) 0 some)))
    (cases_eq (x % 2 ^ 23) 0) in
    ⊎_elim {C = Says}
    (λ (none : x % 2 ^ 16 ≡ 0).
    let half : h ≡ x / 2 ^ 16 = is ∙ exact_odd (x / 2 ^ 16) (x % 2 ^ 16) none in
    by (λ e. omega (arith, half, e, none)) (λ e. omega (arith, half, e, high)))
    (λ (some : x % 2 ^ 16 ≡ 0 → ⊥).
    let half : h ≡ x / 2 ^ 16 + 1 - x / 2 ^ 16 % 2 = is ∙ inexact_odd (x / 2 ^ 16) (x % 2 ^ 16) some in
    by (λ e. absurd (omega (arith, half, e))) (λ e. absurd (some (omega (arith, e)))))
    (cases_eq (x % 2 ^ 16) 0)

-- ---- a format of singles

abbrev pub a_single : Format
a_single =
    record {
      precision = 24;
      scale = 149;
      span = 253;
      nonfinite = IEEE754;
      explicit_integer_bit = false;
      tiny_before_rounding = false;
      ieee_flags = false;
    }

abbrev pub a_layout : Layout
a_layout = record { bits = 32; exponent_bits = 8 }

pub a_single_is : IsSingleFormat a_single a_layout
a_single_is = record {
  precision = refl;
  scale = refl;
  nonfinite = refl;
  implied = refl;
  bits = refl;
  exponent_bits = refl;
}

-- both halves tell infinities from NaNs
pub word_nan : (m upper lower x : ℕ) → m ≡ upper % 2 ^ 15 → x ≡ upper * 2 ^ 16 + lower → lower < 2 ^ 16
    → 255 * 2 ^ 7 ≤ m
    → (leb (255 * 2 ^ 7) m && (not (eqb m (255 * 2 ^ 7)) || not (eqb lower 0))) ≡ not (eqb (x % 2 ^ 23) 0)
word_nan m upper lower x magnitude word short high =
    ap (λ (b : Bool). b && (not (eqb m (255 * 2 ^ 7)) || not (eqb lower 0))) (le-leb (255 * 2 ^ 7) m high)
    ∙ ⊎_elim {C = (not (eqb m (255 * 2 ^ 7)) || not (eqb lower 0)) ≡ not (eqb (x % 2 ^ 23) 0)}
    (λ (same : m ≡ 255 * 2 ^ 7).
    ap (λ (b : Bool). not b || not (eqb lower 0)) (eq-eqb m (255 * 2 ^ 7) same)
    ∙ ⊎_elim {C = not (eqb lower 0) ≡ not (eqb (x % 2 ^ 23) 0)}
    (λ (none : lower ≡ 0).
    ap not (eq-eqb lower 0 none ∙ sym (eq-eqb (x % 2 ^ 23) 0 (omega (arith, none, same, magnitude, word)))))
    (λ (some : lower ≡ 0 → ⊥).
    ap not (ne_eqb lower 0 some ∙ sym (ne_eqb (x % 2 ^ 23) 0 (λ e. some (omega (arith, e, word, short))))))
    (cases_eq lower 0))
    (λ (other : m ≡ 255 * 2 ^ 7 → ⊥).
    ap (λ (b : Bool). not b || not (eqb lower 0)) (ne_eqb m (255 * 2 ^ 7) other)
    ∙ ap not (sym (ne_eqb (x % 2 ^ 23) 0 (λ e. other (omega (arith, e, word, short, magnitude, high))))))
    (cases_eq m (255 * 2 ^ 7))
