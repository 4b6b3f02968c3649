-- Numbers far out of the range of a format: their bits, the side that they are on, and their results.
use Rattle.std.proofs.Common.{◌≡◌, ℕ, ◌+◌, ◌-◌, ◌*◌, ◌^◌, ◌<◌, ◌≤◌, Bool, true, false, not, ◌&&◌, ◌||◌, eqb, List, []}
use Rattle.std.proofs.Common.{◌∷◌, Option, Some, None, refl, subst, sym, ap, ◌∙◌, arith, lit<, ℤ, pos, neg_ℤ, ◌+ℤ◌}
use Rattle.std.proofs.Common.{◌-ℤ◌, ◌≤ℤ◌, FitsSigned, w32, to_z, of_z}
use Rattle.std.proofs.Math.Nat.{mul-le-mul_right, mul-lt-mul_of_pos_right, mul-pos, pow-le-pow_right}
use Rattle.std.proofs.lemmas.{Nat.pow-add, Nat.pow_pos, Option.get_or_from_slice_get, Bool.false≢true, Bool.ne_eqb}
use Rattle.std.proofs.lemmas.Int.{ints, to_z-of_z, to_z_pos}
use Rattle.std.specs.{Prelude.IsTrue, Prelude.IsSomeAnd, Prelude.slice_get, Prelude.slice_index_or, Bool.MatchBool}
use Rattle.apfloat_model.specs.declared.loss.Loss.TheVariants.{ExactlyZero}
use Rattle.apfloat_model.proofs.general.Powers.{two_pos, twice_half, pow3}
use Rattle.apfloat_model.proofs.rounding.FarMagnitudes.{far_above, far_below}
use Rattle.rustc_apfloat.specs.{declared.Round.Round, Format.Format, Bounds.IsWithin, Bounds.exponent_bound}
use Rattle.rustc_apfloat.specs.{Datum.Datum, Datum.finite, Flags.bits_of, Lawful.Constants, Lawful.IsLawful}
use Rattle.rustc_apfloat.specs.{Lawful.AreParameters, Lawful.format_with, Lawful.layout_with, Layout.fields_of}
use Rattle.rustc_apfloat.specs.{Rounding.IsDelivered, Rounding.ok_bits, Standing.StandsFor, Standing.up, Standing.down}
use Rattle.fast_bits.proofs.Reading.{quanta_with, number_read, trailing_low, span_is}
use Rattle.apfloat_arrays.specs.{declared.converted.Converted.Converted, Values.IsAnswerFrom}
use Rattle.apfloat_arrays.specs.FarNumbers.{AnswersFar, AreFarAnswers, IsFar, IsFarPlace, far_place, with_overflow}
use Rattle.small_formats.specs.declared.saturation.saturation.Overflow.{Overflow}
use Rattle.small_formats.specs.declared.saturation.saturation.Overflow.TheVariants.{Rounded, Saturated, Finite}
use Rattle.small_formats.specs.saturation.Saturation.{IsConversionBy}

-- ---- the side that a number is on

pub quanta_some : (precision biased trailing : ℕ) → 0 < quanta_with precision biased trailing
quanta_some precision biased trailing =
    let whole : 0 < 2 ^ (precision - 1) = pow_pos (precision - 1) in
    let some : 0 < 2 ^ (precision - 1) + trailing = omega arith in
    mul-pos some (pow_pos (biased - 1))

past_by : (top from precision biased trailing scale : ℕ) → top + from ≤ precision - 1 + (biased - 1) + scale
    → 2 ^ top * 2 ^ from ≤ quanta_with precision biased trailing * 2 ^ scale
past_by top from precision biased trailing scale far =
    let low : 2 ^ (top + from) ≤ 2 ^ (precision - 1 + (biased - 1) + scale) = pow-le-pow_right two_pos far in
    let left : 2 ^ (top + from) ≡ 2 ^ top * 2 ^ from = pow-add 2 top from in
    let right : 2 ^ (precision - 1 + (biased - 1) + scale) ≡ 2 ^ (precision - 1) * 2 ^ (biased - 1) * 2 ^ scale =
    pow3 (precision - 1) (biased - 1) scale in
    let more : 2 ^ (precision - 1) ≤ 2 ^ (precision - 1) + trailing = omega arith in
    let placed = mul-le-mul_right (2 ^ (biased - 1)) more in
    let all : 2 ^ (precision - 1) * 2 ^ (biased - 1) * 2 ^ scale
    ≤ (2 ^ (precision - 1) + trailing) * 2 ^ (biased - 1) * 2 ^ scale = mul-le-mul_right (2 ^ scale) placed in
    omega arith

little_by : (from precision biased trailing scale : ℕ) → 1 ≤ precision → trailing < 2 ^ (precision - 1)
    → precision + (biased - 1) + scale + 1 ≤ from → 2 * (quanta_with precision biased trailing * 2 ^ scale) < 2 ^ from
little_by from precision biased trailing scale some low far =
    let high : 2 ^ (precision + (biased - 1) + scale + 1) ≤ 2 ^ from = pow-le-pow_right two_pos far in
    let right : 2 ^ (precision + (biased - 1) + scale) ≡ 2 ^ precision * 2 ^ (biased - 1) * 2 ^ scale =
    pow3 precision (biased - 1) scale in
    let twice : 2 ^ (precision + (biased - 1) + scale + 1) ≡ 2 ^ (precision + (biased - 1) + scale) * 2 =
    pow-add 2 (precision + (biased - 1) + scale) 1 in
    let halves : 2 * 2 ^ (precision - 1) ≡ 2 ^ precision = twice_half precision some in
    let less : 2 ^ (precision - 1) + trailing < 2 ^ precision = omega arith in
    let placed = mul-lt-mul_of_pos_right less (pow_pos (biased - 1)) in
    let all : (2 ^ (precision - 1) + trailing) * 2 ^ (biased - 1) * 2 ^ scale
    < 2 ^ precision * 2 ^ (biased - 1) * 2 ^ scale = mul-lt-mul_of_pos_right placed (pow_pos scale) in
    omega arith

-- the quantum of a format is 2 ^ -scale
pub scale_is : (c : Constants) → AreParameters c.precision c.min_exp c.max_exp
    → pos (format_with c).scale ≡ pos (c.precision - 1) -ℤ c.min_exp
scale_is c are = omega (arith, ints, are.precision_low, are.min_exp_high)

-- a number whose exponent is past the greatest one is past all values
pub past_far : (c d : Constants) (biased trailing : ℕ) → IsLawful c → IsLawful d → 0 < biased
    → (d.max_exp +ℤ pos 2) ≤ℤ (c.min_exp +ℤ pos biased)
    → 2 ^ ((format_with d).precision + (format_with d).span) * 2 ^ (format_with c).scale
    ≤ quanta_with c.precision biased trailing * 2 ^ (format_with d).scale
past_far c d biased trailing lawful_c lawful_d some far =
    let pc = lawful_c.parameters in
    let pd = lawful_d.parameters in
    let to = scale_is d pd in
    let span = span_is d pd in
    past_by (d.precision + (format_with d).span) (format_with c).scale c.precision biased trailing
    (format_with d).scale (omega (arith, ints, pc.precision_low, pd.precision_low, scale_is c pc, to, span, far))

-- a number whose exponent is below the least one by more than the precision is below half of the smallest positive
-- value
pub little_far : (c d : Constants) (biased trailing : ℕ) → IsLawful c → IsLawful d → 0 < biased
    → trailing < 2 ^ (c.precision - 1) → (c.min_exp +ℤ pos biased) ≤ℤ (d.min_exp -ℤ pos d.precision)
    → 2 * (quanta_with c.precision biased trailing * 2 ^ (format_with d).scale) < 2 ^ (format_with c).scale
little_far c d biased trailing lawful_c lawful_d some low far =
    let pc = lawful_c.parameters in
    let pd = lawful_d.parameters in
    let precise : 1 ≤ c.precision = omega (arith, pc.precision_low) in
    little_by (format_with c).scale c.precision biased trailing (format_with d).scale precise low
    (omega (arith, ints, pc.precision_low, pd.precision_low, scale_is c pc, scale_is d pd, far))

abbrev biased_of : Constants → ℕ → ℕ
biased_of c bits = (fields_of (format_with c) (layout_with c) bits).biased_exponent

abbrev trailing_of : Constants → ℕ → ℕ
trailing_of c bits = (fields_of (format_with c) (layout_with c) bits).trailing

-- bits of a normal number on that side
number_placed : (c d : Constants) (bits place : ℕ) (past : Bool) → c.explicit_integer_bit ≡ false
    → 0 < biased_of c bits → biased_of c bits + 1 < 2 ^ c.exp_bits
    → place ≡ far_place past (fields_of (format_with c) (layout_with c) bits).negative
    → IsFar past (format_with d)
    (quanta_with c.precision (biased_of c bits) (trailing_of c bits) * 2 ^ (format_with d).scale)
    (2 ^ (format_with c).scale)
    → IsFarPlace c d bits place
number_placed c d bits place past implied low high is far = record {
  past = past;
  negative = (fields_of (format_with c) (layout_with c) bits).negative;
  quanta = quanta_with c.precision (biased_of c bits) (trailing_of c bits);
  place_is = is;
  read = number_read c bits implied low high;
  some = quanta_some c.precision (biased_of c bits) (trailing_of c bits);
  far = far;
}

-- bits that pass the tests encode a number on that side
pub placed : (c d : Constants) (bits place : ℕ) (past little number : Bool) → IsLawful c → IsLawful d
    → c.explicit_integer_bit ≡ false → (IsTrue past → (d.max_exp +ℤ pos 2) ≤ℤ (c.min_exp +ℤ pos (biased_of c bits)))
    → (IsTrue little → (c.min_exp +ℤ pos (biased_of c bits)) ≤ℤ (d.min_exp -ℤ pos d.precision))
    → (IsTrue number → (0 < biased_of c bits) × (biased_of c bits + 1 < 2 ^ c.exp_bits))
    → IsTrue ((past || little) && number)
    → place ≡ far_place past (fields_of (format_with c) (layout_with c) bits).negative → IsFarPlace c d bits place
placed c d bits place true little true lawful_c lawful_d implied is_past is_little is_number both is =
    let between = is_number refl in
    number_placed c d bits place true implied between.0 between.1 is
    (record {
      some = pow_pos (format_with c).scale;
      from = past_far c d (biased_of c bits) (trailing_of c bits) lawful_c lawful_d between.0 (is_past refl);
    })
placed c d bits place false true true lawful_c lawful_d implied is_past is_little is_number both is =
    let between = is_number refl in
    number_placed c d bits place false implied between.0 between.1 is
    (record {
      some =
          mul-pos (quanta_some c.precision (biased_of c bits) (trailing_of c bits)) (pow_pos (format_with d).scale);
      to =
          little_far c d (biased_of c bits) (trailing_of c bits) lawful_c lawful_d between.0
          (trailing_low c bits implied) (is_little refl);
    })
placed c d bits place true little false lawful_c lawful_d implied is_past is_little is_number both is =
    absurd (false≢true both)
placed c d bits place false true false lawful_c lawful_d implied is_past is_little is_number both is =
    absurd (false≢true both)
placed c d bits place false false number lawful_c lawful_d implied is_past is_little is_number both is =
    absurd (false≢true both)

-- ---- an exponent on each side

-- the words that hold a format's constants
pub exponent_held : (word exponent : ℤ) → FitsSigned w32 word → word ≡ exponent → to_z w32 (of_z w32 word) ≡ exponent
exponent_held word exponent fits is = to_z-of_z w32 word fits ∙ is

pub precision_fits : (precision : ℕ) (min max : ℤ) → AreParameters precision min max → FitsSigned w32 (pos precision)
precision_fits precision min max are = omega (arith, ints, are.precision_high)

pub precision_held : (word precision : ℕ) (min max : ℤ) → AreParameters precision min max → word ≡ precision
    → to_z w32 word ≡ pos precision
precision_held word precision min max are is =
    to_z_pos w32 word (omega (arith, are.precision_high, is)) ∙ ap (λ (n : ℕ). pos n) is

pub above_fits : (precision : ℕ) (min max : ℤ) → AreParameters precision min max → FitsSigned w32 (max +ℤ pos 1)
above_fits precision min max are = omega (arith, ints, are.max_exp_low, are.max_exp_high)

pub above_within : (precision : ℕ) (min max : ℤ) → AreParameters precision min max
    → IsWithin exponent_bound (max +ℤ pos 1)
above_within precision min max are =
    let low = are.max_exp_low in
    let high = are.max_exp_high in
    record { low = omega (arith, ints, low); high = omega (arith, ints, high) }

pub above_unit : (c : Constants) → AreParameters c.precision c.min_exp c.max_exp
    → ((c.max_exp +ℤ pos 1) +ℤ pos (format_with c).scale) ≡ pos (c.precision + (format_with c).span)
above_unit c are = omega (arith, ints, scale_is c are, span_is c are, are.precision_low)

pub beside_fits : (precision : ℕ) (min max : ℤ) → AreParameters precision min max
    → FitsSigned w32 (min -ℤ pos precision)
beside_fits precision min max are = omega (arith, ints, are.precision_high, are.min_exp_low, are.min_exp_high)

pub below_fits : (precision : ℕ) (min max : ℤ) → AreParameters precision min max
    → FitsSigned w32 ((min -ℤ pos precision) -ℤ pos 1)
below_fits precision min max are = omega (arith, ints, are.precision_high, are.min_exp_low, are.min_exp_high)

pub below_within : (precision : ℕ) (min max : ℤ) → AreParameters precision min max
    → IsWithin exponent_bound ((min -ℤ pos precision) -ℤ pos 1)
below_within precision min max are =
    let low = are.min_exp_low in
    let high = are.min_exp_high in
    record { low = omega (arith, ints, are.precision_high, low); high = omega (arith, ints, high) }

pub below_unit : (c : Constants) → AreParameters c.precision c.min_exp c.max_exp
    → (((c.min_exp -ℤ pos c.precision) -ℤ pos 1) +ℤ pos (format_with c).scale) ≡ neg_ℤ (pos 2)
below_unit c are = omega (arith, ints, scale_is c are, are.precision_low)

-- ---- the results

-- the result for one power of two on a side is the result for all magnitudes there
pub far_delivered : (past : Bool) (format : Format) (mode : Round) (negative : Bool) (unit : ℤ) (value : Datum)
    (status : ℕ) → 0 < format.precision
    → MatchBool past (unit ≡ pos (format.precision + format.span)) (unit ≡ neg_ℤ (pos 2))
    → ((amount parts : ℕ) → 0 < parts
    → StandsFor 1 ExactlyZero (amount * 2 ^ down unit) (parts * 2 ^ up unit)
    → IsDelivered format mode negative amount parts value status)
    → (amount parts : ℕ) → IsFar past format amount parts
    → IsDelivered format mode negative amount parts value status
far_delivered true format mode negative unit value status some is known amount parts far =
    let top : ℕ = 2 ^ (format.precision + format.span) in
    let one : IsDelivered format mode negative (2 ^ (format.precision + format.span)) 1 value status =
    known (2 ^ (format.precision + format.span)) 1 (lit< tt)
    (subst (λ (u : ℤ). 2 ^ (format.precision + format.span) * 2 ^ down u ≡ 1 * (1 * 2 ^ up u)) (sym is) (omega arith))
    in far_above format mode negative (2 ^ (format.precision + format.span)) 1 amount parts value status some
    (record { some = lit< tt; from = omega arith }) (record { some = far.some; from = far.from }) one
far_delivered false format mode negative unit value status some is known amount parts far =
    let one : IsDelivered format mode negative 1 4 value status =
    known 1 4 (lit< tt) (subst (λ (u : ℤ). 1 * 2 ^ down u ≡ 1 * (4 * 2 ^ up u)) (sym is) (omega arith)) in
    far_below format mode negative 1 4 amount parts value status some
    (record { some = lit< tt; to = lit< tt }) (record { some = far.some; to = far.to }) one

-- a nonzero number that is delivered is converted, with any treatment of overflow
pub number_converted : (overflow : Overflow) (f g : Format) (mode : Round) (negative : Bool) (quanta : ℕ)
    (rounded : Datum) (status : ℕ) → 0 < quanta
    → IsDelivered g mode negative (quanta * 2 ^ g.scale) (2 ^ f.scale) rounded status
    → IsConversionBy overflow f g mode (finite negative quanta) (with_overflow overflow g negative rounded) status
    (not (eqb status ok_bits))
number_converted Rounded f g mode negative quanta rounded status some delivered =
    rw (ne_eqb quanta 0 (λ e. omega arith)) (record { is_delivered = delivered; loses_is = refl })
number_converted Saturated f g mode negative quanta rounded status some delivered =
    record {
      rounded = rounded;
      is_conversion = rw (ne_eqb quanta 0 (λ e. omega arith)) (record { is_delivered = delivered; loses_is = refl });
      value_is = refl;
    }
number_converted (Finite nans) f g mode negative quanta rounded status some delivered =
    record {
      rounded = rounded;
      is_conversion = rw (ne_eqb quanta 0 (λ e. omega arith)) (record { is_delivered = delivered; loses_is = refl });
      value_is = refl;
    }

-- the item at a place that holds one
held : (found : Option Converted) (Says : Converted → Type 0) → IsSomeAnd found Says
    → (answer : Converted) × (found ≡ Some answer) × Says answer
held None Says said = absurd said
held (Some answer) Says said = (answer, refl, said)

-- the result for the number that bits encode
answered_by : (overflow : Overflow) (c d : Constants) (mode : Round) (bits place : ℕ) (answer : Converted)
    (far : IsFarPlace c d bits place)
    → AnswersFar overflow d mode far.past far.negative answer → IsAnswerFrom overflow c d mode bits answer
answered_by overflow c d mode bits place answer far all =
    let it = all (far.quanta * 2 ^ (format_with d).scale) (2 ^ (format_with c).scale) far.far in
    record {
      value = with_overflow overflow (format_with d) far.negative it.rounded;
      loses = not (eqb (bits_of answer.outcome.status) ok_bits);
      is_conversion =
          subst
          (λ (x : Datum). IsConversionBy overflow (format_with c) (format_with d) mode x
          (with_overflow overflow (format_with d) far.negative it.rounded) (bits_of answer.outcome.status)
          (not (eqb (bits_of answer.outcome.status) ok_bits))) (sym far.read)
          (number_converted overflow (format_with c) (format_with d) mode far.negative far.quanta it.rounded
          (bits_of answer.outcome.status) far.some it.is_delivered);
      is_encoded = it.is_encoded;
      nan_is = it.nan_is;
    }

-- the result at the place of a number far out of range is that of the number
pub answered_far : (overflow : Overflow) (c d : Constants) (mode : Round) (bits place : ℕ) (answers : List Converted)
    (none : Converted) → AreFarAnswers overflow d mode answers → IsFarPlace c d bits place
    → IsAnswerFrom overflow c d mode bits (slice_index_or answers place none)
answered_far overflow c d mode bits place answers none are far =
    let Says : ℕ → Type 0 = λ n. IsSomeAnd (slice_get answers n)
    (λ a. AnswersFar overflow d mode far.past far.negative a) in
    let here : Says place = subst Says (sym far.place_is) (are far.past far.negative) in
    let it = held (slice_get answers place) (λ a. AnswersFar overflow d mode far.past far.negative a) here in
    let same : slice_index_or answers place none ≡ it.0 = get_or_from_slice_get answers place it.0 none it.1 in
    subst (λ (a : Converted). IsAnswerFrom overflow c d mode bits a) (sym same)
    (answered_by overflow c d mode bits place it.0 far it.2)

-- four results, each for its side and its sign
pub four_answers : (overflow : Overflow) (d : Constants) (mode : Round) (a b e f : Converted)
    → AnswersFar overflow d mode false false a → AnswersFar overflow d mode false true b
    → AnswersFar overflow d mode true false e → AnswersFar overflow d mode true true f → (past negative : Bool)
    → IsSomeAnd (slice_get (a ∷ b ∷ e ∷ f ∷ []) (far_place past negative))
    (λ answer. AnswersFar overflow d mode past negative answer)
four_answers overflow d mode a b e f p q r s false false = p
four_answers overflow d mode a b e f p q r s false true = q
four_answers overflow d mode a b e f p q r s true false = r
four_answers overflow d mode a b e f p q r s true true = s
