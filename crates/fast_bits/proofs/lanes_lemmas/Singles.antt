-- Finite singles, read from their bits, and their conversions.
use Rattle.std.proofs.Common.{◌≡◌, ℕ, ◌+◌, ◌-◌, ◌*◌, ◌/◌, ◌%◌, ◌^◌, ◌<◌, ◌≤◌, min, Bool, true, false, cond, not, ◌&&◌}
use Rattle.std.proofs.Common.{◌||◌, eqb, refl, sym, ap, ◌∙◌, subst, ⊎_elim, arith}
use Rattle.std.proofs.Math.Nat.{min-eq_right, le_of_mul-le-mul_right}
use Rattle.std.proofs.lemmas.{Nat.pow_pos, Bool.cases_eq, Bool.cond-false, Bool.eq-eqb, Bool.ne_eqb}
use Rattle.apfloat_model.specs.{bits.Layout.trailing_bits, declared.kinds.NonfiniteBehavior.NonfiniteBehavior}
use Rattle.apfloat_model.specs.arithmetic.Conversions.{loses_zero_sign}
use Rattle.apfloat_model.specs.bits.Layout.{Layout, all_ones, datum_of, datum_of_fields, implied_datum, implied_number}
use Rattle.apfloat_model.specs.declared.kinds.NonfiniteBehavior.TheVariants.{IEEE754, NanOnly, NanNegativeZero}
use Rattle.apfloat_model.specs.declared.kinds.Round.{Round}
use Rattle.apfloat_model.specs.formats.{Datum.finite, Format.Format, Format.smallest_normalized}
use Rattle.apfloat_model.specs.rounding.Rounding.{ok_bits, zero_sign}
use Rattle.apfloat_model.proofs.bits.EncodedOnce.{fields_with}
use Rattle.apfloat_model.proofs.rounding.Laws.{delivered_once, zero_delivered}
use Rattle.fast_bits.specs.{declared.lanes.lanes.Lane.Lane, lanes.Lanes.IsConvertedLane, lanes.Lanes.IsRounded}
use Rattle.fast_bits.specs.lanes.{Lanes.flag_if, Lanes.flags_of, Targets.IsSingleFormat, Targets.has_one_zero}

-- ---- from bits

-- the significand and the place of a magnitude's bits
abbrev pub significand_of : ℕ → ℕ
significand_of a = a % 2 ^ 23 + min (a / 2 ^ 23) 1 * 2 ^ 23

abbrev pub place_of : ℕ → ℕ
place_of a = a / 2 ^ 23 - 1

-- the number that fields below the greatest exponent encode
pub fields_number : (f : Format) (layout : Layout) (negative : Bool) (biased trailing : ℕ) → f.nonfinite ≡ IEEE754
    → f.explicit_integer_bit ≡ false → eqb biased (all_ones layout.exponent_bits) ≡ false
    → datum_of_fields f layout (fields_with negative biased trailing)
    ≡ finite negative ((trailing + min biased 1 * 2 ^ (f.precision - 1)) * 2 ^ (biased - 1))
fields_number f layout negative biased trailing kind implied few =
    cond-false f.explicit_integer_bit _ _ implied
    ∙ ap (λ (k : NonfiniteBehavior). implied_datum k f layout (fields_with negative biased trailing)) kind ∙ rw few
    (⊎_elim {C = implied_number f (fields_with negative biased trailing)
    ≡ finite negative ((trailing + min biased 1 * 2 ^ (f.precision - 1)) * 2 ^ (biased - 1))}
    (λ (none : biased ≡ 0).
    let same : trailing ≡ (trailing + min biased 1 * 2 ^ (f.precision - 1)) * 2 ^ (biased - 1) =
    rw none (let e : trailing ≡ (trailing + 0 * 2 ^ (f.precision - 1)) * 2 ^ 0 = omega arith in e) in
    rw (eq-eqb biased 0 none) (ap (finite negative) same))
    (λ (some : biased ≡ 0 → ⊥).
    let one : min biased 1 ≡ 1 = min-eq_right (omega (arith, some)) in
    let times : min biased 1 * 2 ^ (f.precision - 1) ≡ 1 * 2 ^ (f.precision - 1) =
    ap (λ (n : ℕ). n * 2 ^ (f.precision - 1)) one in
    let significand : smallest_normalized f + trailing ≡ trailing + min biased 1 * 2 ^ (f.precision - 1) =
    omega (arith, times) in
    rw (ne_eqb biased 0 some) (ap (λ (n : ℕ). finite negative (n * 2 ^ (biased - 1))) significand))
    (cases_eq biased 0))

-- the fields of the bits of a single
pub single_read : (f : Format) (layout : Layout) (x : ℕ) → IsSingleFormat f layout → x < 2 ^ 32
    → x % 2 ^ 31 < 255 * 2 ^ 23 → datum_of f layout x
    ≡ finite (eqb (x / 2 ^ 31) 1) (significand_of (x % 2 ^ 31) * 2 ^ place_of (x % 2 ^ 31))
single_read f layout x single word few =
    let width : trailing_bits f ≡ 23 =
    cond-false f.explicit_integer_bit _ _ single.implied ∙ ap (λ (n : ℕ). n - 1) single.precision in
    let sign : x / 2 ^ (layout.bits - 1) % 2 ≡ x / 2 ^ 31 =
    ap (λ (n : ℕ). x / 2 ^ (n - 1) % 2) single.bits ∙ (let e : x / 2 ^ 31 % 2
    ≡ x / 2 ^ 31 = omega (arith, word) in e) in
    let biased : x / 2 ^ trailing_bits f % 2 ^ layout.exponent_bits ≡ x % 2 ^ 31 / 2 ^ 23 =
    (λ i. x / 2 ^ width i % 2 ^ single.exponent_bits i)
    ∙ (let e : x / 2 ^ 23 % 2 ^ 8 ≡ x % 2 ^ 31 / 2 ^ 23 = omega arith in e) in
    let trailing : x % 2 ^ trailing_bits f ≡ x % 2 ^ 31 % 2 ^ 23 =
    ap (λ (n : ℕ). x % 2 ^ n) width ∙ (let e : x % 2 ^ 23 ≡ x % 2 ^ 31 % 2 ^ 23 = omega arith in e) in
    let ones : all_ones layout.exponent_bits ≡ 255 = ap all_ones single.exponent_bits in
    let below : x % 2 ^ 31 / 2 ^ 23 < 255 = omega (arith, few) in
    let not_all : eqb (x % 2 ^ 31 / 2 ^ 23) (all_ones layout.exponent_bits) ≡ false =
    ne_eqb (x % 2 ^ 31 / 2 ^ 23) (all_ones layout.exponent_bits) (λ e. omega (arith, e, ones, below)) in
    (λ i. datum_of_fields f layout (fields_with (eqb (sign i) 1) (biased i) (trailing i)))
    ∙ fields_number f layout (eqb (x / 2 ^ 31) 1) (x % 2 ^ 31 / 2 ^ 23) (x % 2 ^ 31 % 2 ^ 23) single.nonfinite
    single.implied not_all
    ∙ ap (λ (p : ℕ). finite (eqb (x / 2 ^ 31) 1) ((x % 2 ^ 31 % 2 ^ 23 + min (x % 2 ^ 31 / 2 ^ 23) 1 * 2 ^ (p - 1))
    * 2 ^ place_of (x % 2 ^ 31))) single.precision

-- a product is zero only if one of its factors is
pub zero_factor : (m unit : ℕ) → 0 < unit → m * unit ≡ 0 → m ≡ 0
zero_factor m unit some none =
    let low : m ≤ 0 = le_of_mul-le-mul_right (omega (arith, none)) some in omega (arith, low)

-- a number is zero exactly if its magnitude's bits are
zero_back : (a : ℕ) → significand_of a * 2 ^ place_of a ≡ 0 → a ≡ 0
zero_back a none = omega (arith, zero_factor (significand_of a) (2 ^ place_of a) (pow_pos (place_of a)) none)

-- ---- conversions

-- only flags that are false add up to 0
no_flags : (inexact underflow overflow invalid : Bool)
    → flag_if 16 inexact + flag_if 8 underflow + flag_if 4 overflow + flag_if 1 invalid ≡ 0
    → (inexact ≡ false) × (underflow ≡ false) × (overflow ≡ false) × (invalid ≡ false)
no_flags false false false false e = (refl, refl, refl, refl)
no_flags false false false true e = absurd (omega (arith, e))
no_flags false false true invalid e = absurd (omega (arith, e))
no_flags false true overflow invalid e = absurd (omega (arith, e))
no_flags true underflow overflow invalid e = absurd (omega (arith, e))

one_flag : (b : Bool) → flag_if 16 b + 0 + 0 + 0 ≡ cond b 16 0
one_flag true = refl
one_flag false = refl

-- a zero loses its sign where there is no negative zero
sign_lost : (f : Format) (kind : NonfiniteBehavior) (negative : Bool) → f.nonfinite ≡ kind
    → loses_zero_sign f negative ≡ (has_one_zero kind && negative && true)
sign_lost f IEEE754 true is = rw is refl
sign_lost f IEEE754 false is = rw is refl
sign_lost f NanOnly true is = rw is refl
sign_lost f NanOnly false is = rw is refl
sign_lost f NanNegativeZero true is = rw is refl
sign_lost f NanNegativeZero false is = rw is refl

-- a test that ends in false
last_false : (a b : Bool) → (a && b && false) ≡ false
last_false true true = refl
last_false true false = refl
last_false false b = refl

or_false : (a : Bool) → (a || false) ≡ a
or_false true = refl
or_false false = refl

abbrev pub with_inexact : Lane → Bool → Lane
with_inexact lane inexact =
    record {
      bits = lane.bits;
      inexact = inexact;
      underflow = lane.underflow;
      overflow = lane.overflow;
      invalid = lane.invalid;
      is_nan = lane.is_nan;
    }

-- the lane of a finite single: its quanta are 2 ^ -149, so it is quanta * 2 ^ f.scale / 2 ^ 149 quanta of f
module _ (saturates : Bool) (single : Format) (read : Layout) (f : Format) (layout : Layout) (mode : Round)
    (negative : Bool) (quanta bits : ℕ) (lane : Lane) (number : datum_of single read bits ≡ finite negative quanta)
    (scale : single.scale ≡ 149) where
  abbrev pub Rounded : Type 0
  Rounded = IsRounded saturates f layout mode negative (quanta * 2 ^ f.scale) (2 ^ 149) lane

  zero_converted : (loses : Bool) → quanta ≡ 0 → 0 < f.precision → loses ≡ loses_zero_sign f negative → Rounded
      → IsConvertedLane saturates single read f layout mode bits (with_inexact lane (lane.inexact || loses))
  zero_converted loses none precise lost it =
      let amount : quanta * 2 ^ f.scale ≡ 0 = ap (λ (n : ℕ). n * 2 ^ f.scale) none ∙ omega arith in
      let once = delivered_once f mode negative (quanta * 2 ^ f.scale) (2 ^ 149) it.rounded
      (finite (zero_sign f.nonfinite negative) 0) (flags_of lane) ok_bits it.is_delivered
      (zero_delivered f mode negative (2 ^ 149) (quanta * 2 ^ f.scale) (pow_pos 149) amount) in
      let flags = no_flags lane.inexact lane.underflow lane.overflow lane.invalid once.1 in
      record {
        negative = negative;
        quanta = quanta;
        number = number;
        rounded = it.rounded;
        loses = loses_zero_sign f negative;
        is_conversion =
            rw (eq-eqb quanta 0 none)
            (record {
              value_is = once.0;
              status_is = rw (flags.0, flags.1, flags.2, flags.3, lost) (one_flag (loses_zero_sign f negative));
              loses_is = refl;
            });
        is_encoded = it.is_encoded;
        nan_is = it.nan_is;
      }

  some_converted : (quanta ≡ 0 → ⊥) → Rounded → IsConvertedLane saturates single read f layout mode bits lane
  some_converted some it = record {
    negative = negative;
    quanta = quanta;
    number = number;
    rounded = it.rounded;
    loses = not (eqb (flags_of lane) ok_bits);
    is_conversion = rw (ne_eqb quanta 0 some, scale) (record { is_delivered = it.is_delivered; loses_is = refl });
    is_encoded = it.is_encoded;
    nan_is = it.nan_is;
  }

-- the lane's flag of a zero that loses its sign is added
pub lane_converted : (saturates : Bool) (single : Format) (read : Layout) (f : Format) (layout : Layout) (mode : Round)
    (negative loses : Bool) (a bits : ℕ) (lane : Lane)
    → datum_of single read bits ≡ finite negative (significand_of a * 2 ^ place_of a) → single.scale ≡ 149
    → 0 < f.precision → loses ≡ (has_one_zero f.nonfinite && negative && eqb a 0)
    → IsRounded saturates f layout mode negative (significand_of a * 2 ^ place_of a * 2 ^ f.scale) (2 ^ 149) lane
    → IsConvertedLane saturates single read f layout mode bits (with_inexact lane (lane.inexact || loses))
lane_converted saturates single read f layout mode negative loses a bits lane number scale precise lost it =
    let quanta = significand_of a * 2 ^ place_of a in
    let Says : Lane → Type 0 = λ one. IsConvertedLane saturates single read f layout mode bits one in
    ⊎_elim {C = Says (with_inexact lane (lane.inexact || loses))}
    (λ (none : a ≡ 0).
    let no_quanta : significand_of a * 2 ^ place_of a ≡ 0 =
    ap (λ (n : ℕ). significand_of n * 2 ^ place_of n) none ∙ refl in
    let gone : loses ≡ loses_zero_sign f negative =
    lost ∙ ap (λ (b : Bool). has_one_zero f.nonfinite && negative && b) (eq-eqb a 0 none)
    ∙ sym (sign_lost f f.nonfinite negative refl) in
    zero_converted saturates single read f layout mode negative quanta bits lane number scale loses no_quanta precise
    gone it)
    (λ (some : a ≡ 0 → ⊥).
    let kept : loses ≡ false =
    lost ∙ ap (λ (b : Bool). has_one_zero f.nonfinite && negative && b) (ne_eqb a 0 some)
    ∙ last_false (has_one_zero f.nonfinite) negative in
    let same : lane.inexact ≡ (lane.inexact || loses) =
    sym (ap (λ (b : Bool). lane.inexact || b) kept ∙ or_false lane.inexact) in
    subst (λ (b : Bool). Says (with_inexact lane b)) same
    (some_converted saturates single read f layout mode negative quanta bits lane number scale
    (λ e. some (zero_back a e)) it))
    (cases_eq a 0)
