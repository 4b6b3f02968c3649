-- What the worked rows have in common: named formats, values given by their bits, and the proof of a rounding.
use Rattle.std.proofs.Common.{◌≡◌, ℕ, ◌+◌, ◌-◌, ◌*◌, ◌^◌, ◌<◌, Bool, true, false, ltb, leb}
use Rattle.std.proofs.Common.{eqb, ◌&&◌, ◌||◌, if◌then◌else◌, refl, sym, ⊎_elim, inl, inr}
use Rattle.std.proofs.Math.Arith.{lt_of_le-ne}
use Rattle.std.proofs.lemmas.Bool.{and_parts, or_cases, leb-true, ltb-true, eqb-true, eqb-false}
use Rattle.apfloat_model.specs.{declared.kinds.Round.Round, formats.Format.Format, formats.Datum.Datum}
use Rattle.apfloat_model.specs.formats.Lawful.{Constants, format_with, layout_with}
use Rattle.apfloat_model.specs.formats.Formats.{half_constants, single_constants, e5m2_constants, e4m3fn_constants}
use Rattle.apfloat_model.specs.{formats.Formats.e4m3fnuz_constants, rounding.Enclosure.IsEnclosed}
use Rattle.apfloat_model.specs.rounding.Rounding.{pick_between, delivered_value, delivered_status, IsPick, IsDelivered}
use Rattle.apfloat_model.specs.rounding.Answer.{IsAnswer}
use Rattle.apfloat_model.specs.whole_numbers.WholeNumbersOut.{Whole, IsWhole}
use Rattle.apfloat_model.specs.{arithmetic.Conversions.IsConverted, bits.Layout.datum_of}
use Rattle.apfloat_model.proofs.rounding.Neighbours.{below_is, above_is_same, above_is_next}
use Rattle.apfloat_model.proofs.general.Choices.{cond_same}

-- ---- formats, and the values that bits encode in them

abbrev pub half : Format
half = format_with half_constants

abbrev pub single : Format
single = format_with single_constants

abbrev pub e5m2 : Format
e5m2 = format_with e5m2_constants

abbrev pub e4m3fn : Format
e4m3fn = format_with e4m3fn_constants

abbrev pub e4m3fnuz : Format
e4m3fnuz = format_with e4m3fnuz_constants

-- half precision, with tininess decided before rounding
abbrev pub half_tiny_before : Format
half_tiny_before = format_with (record half_constants { tiny_before_rounding = true })

-- half precision, with the flags of IEEE 754-2019, tininess decided after or before rounding
abbrev pub half_ieee : Format
half_ieee = format_with (record half_constants { ieee_flags = true })

abbrev pub half_ieee_before : Format
half_ieee_before = format_with (record half_constants { ieee_flags = true; tiny_before_rounding = true })

abbrev pub value_in : Constants → ℕ → Datum
value_in constants bits = datum_of (format_with constants) (layout_with constants) bits

abbrev pub in_half : ℕ → Datum
in_half bits = value_in half_constants bits

abbrev pub in_single : ℕ → Datum
in_single bits = value_in single_constants bits

abbrev pub in_e5m2 : ℕ → Datum
in_e5m2 bits = value_in e5m2_constants bits

abbrev pub in_e4m3fn : ℕ → Datum
in_e4m3fn bits = value_in e4m3fn_constants bits

abbrev pub in_e4m3fnuz : ℕ → Datum
in_e4m3fnuz bits = value_in e4m3fnuz_constants bits

-- ---- results that need no rounding

-- a result given outright: a datum, an integer, or a conversion
pub answer : {value : Datum} {status : ℕ} → IsAnswer value status value status
answer = record { value_is = refl; status_is = refl }

pub whole : {answer : Whole} → IsWhole answer answer.number answer.status answer.is_exact
whole = record { number_is = refl; status_is = refl; is_exact_is = refl }

pub converted : {value : Datum} {status : ℕ} {loses : Bool} → IsConverted value status loses value status loses
converted = record { value_is = refl; status_is = refl; loses_is = refl }

-- ---- a rounding: the neighbours of the magnitude are m * 2 ^ c and (m + 1) * 2 ^ c

-- whether the two are neighbours of the magnitude
abbrev pub encloses : ℕ → ℕ → ℕ → ℕ → ℕ → Bool
encloses precision m c amount parts =
    eqb (2 ^ precision) (2 * 2 ^ (precision - 1)) && (ltb m (2 ^ precision) && ((eqb c 0 || leb (2 ^ (precision - 1)) m)
    && (leb (m * 2 ^ c * parts) amount && (ltb amount ((m + 1) * 2 ^ c * parts) && ltb 0 parts))))

-- the magnitude itself if it is the lower neighbour, otherwise the neighbour that the mode picks
abbrev pub picked : Round → Bool → ℕ → ℕ → ℕ → ℕ → ℕ
picked mode negative m c amount parts =
    if eqb amount (m * 2 ^ c * parts) then m * 2 ^ c
    else pick_between mode negative (m * 2 ^ c) ((m + 1) * 2 ^ c) amount parts

module _ (precision : ℕ) (mode : Round) (negative : Bool) (m c amount parts : ℕ)
    (i : IsEnclosed precision (2 ^ (precision - 1)) m c amount parts) (p : 0 < parts) where
  -- `picked` is the pick; `same` says whether the magnitude is the lower neighbour
  is_picked : (same : Bool) → eqb amount (m * 2 ^ c * parts) ≡ same → IsPick precision mode negative amount parts
      (if same then m * 2 ^ c else pick_between mode negative (m * 2 ^ c) ((m + 1) * 2 ^ c) amount parts)
  is_picked true e = record {
    below = m * 2 ^ c;
    above = m * 2 ^ c;
    is_below = below_is precision _ m c amount parts i;
    is_above = above_is_same precision _ m c amount parts p i (eqb-true _ _ e);
    is = cond_same _ (m * 2 ^ c);
  }
  is_picked false e = record {
    below = m * 2 ^ c;
    above = (m + 1) * 2 ^ c;
    is_below = below_is precision _ m c amount parts i;
    is_above = above_is_next precision _ m c amount parts i (lt_of_le-ne i.from (λ s. eqb-false _ _ e (sym s)));
    is = refl;
  }

-- a rounding is proved from the enclosing significand, and the value and the status that follow
pub rounded : {format : Format} {mode : Round} {negative : Bool} {amount parts : ℕ} {value : Datum} {status : ℕ}
    (m c : ℕ) → encloses format.precision m c amount parts ≡ true
    → value ≡ delivered_value format mode negative (picked mode negative m c amount parts)
    → status ≡ delivered_status format mode negative amount parts (picked mode negative m c amount parts)
    → IsDelivered format mode negative amount parts value status
rounded {format} {mode} {negative} {amount} {parts} m c e v s =
    let x = and_parts _ _ e in
    let y = and_parts _ _ x.1 in
    let z = and_parts _ _ y.1 in
    let u = and_parts _ _ z.1 in
    let w = and_parts _ _ u.1 in
    let i : IsEnclosed format.precision (2 ^ (format.precision - 1)) m c amount parts =
    record {
      double = eqb-true _ _ x.0;
      fits = ltb-true _ _ y.0;
      full = ⊎_elim (λ n. inl (eqb-true _ _ n)) (λ n. inr (leb-true _ _ n)) (or_cases _ _ z.0);
      from = leb-true _ _ u.0;
      to = ltb-true _ _ w.0;
    } in
    record {
      pick = picked mode negative m c amount parts;
      is_pick = is_picked format.precision mode negative m c amount parts i (ltb-true _ _ w.1)
          (eqb amount (m * 2 ^ c * parts)) refl;
      value_is = v;
      status_is = s;
    }
