-- Two numbers in the order of their magnitudes, and the cut of the lesser at the unit of the greater.
use Rattle.std.proofs.Common.{◌≡◌, ℕ, zero, suc, ℤ, pos, ◌+ℤ◌, ◌+◌, ◌-◌, ◌*◌, ◌/◌, ◌%◌, ◌^◌, ◌<◌, ◌≤◌, ◌⊎◌, Bool, true}
use Rattle.std.proofs.Common.{false, cond, not, Option, sym, refl, ap, ◌∙◌, inl, inr, ⊎_elim, arith}
use Rattle.std.proofs.Math.Path.{subst₂}
use Rattle.std.proofs.Math.Nat.{mod-eq_of_lt, mul-le-mul_left, mul-le-mul_right, pow-le-pow_right}
use Rattle.std.proofs.lemmas.{Bool.cases_lt, Int.ints, Nat.div-add-mod', Nat.mod_below, Nat.pow-add, Nat.pow_pos}
use Rattle.std.specs.Prelude.{IfSome}
use Rattle.apfloat_model.specs.{declared.kinds.Round.Round, formats.Lawful.Constants, formats.Lawful.format_with}
use Rattle.apfloat_model.specs.{formats.Lawful.layout_with, rounding.RoundingToOdd.IsRoundedToOdd}
use Rattle.apfloat_model.specs.arithmetic.{Exact.IsRounded, Exact.signed, Sums.zero_sum_sign}
use Rattle.apfloat_model.specs.bits.{Interchange.IsInterchange, Layout.fields_of, Layout.trailing_bits}
use Rattle.apfloat_model.proofs.{arithmetic.Signs.swapped_sum, general.Powers.two_pos, general.Powers.lower_mod}
use Rattle.apfloat_words.specs.Totals.{IsApartToOdd}
use Rattle.apfloat_words.proofs.OddTotals.{total_to_odd, unlike_false, unlike_true}
use Rattle.apfloat_arithmetic.proofs.Additions.{IsRepresentedToOdd}
use Rattle.fast_bits.specs.{declared.encoded.Encoded.Encoded, declared.numbers.Number.Number, Encoded.IsNumberAnswer}
use Rattle.fast_bits.specs.Numbers.{AreOrderedNumbers, IsNumberOf, quanta_of}
use Rattle.fast_bits.proofs.{Operands.total_read, Reading.number_is, Reading.trailing_low, Reading.word_field}
use mathlib.Core.Bool.{beq}

-- ---- cuts

-- a number of 62 digits, cut at the unit of one that is not less, is not above it
pub cut_below : (high low j gap : ℕ) → 2 ^ 61 ≤ high → low < 2 ^ 62 → (gap ≡ 0 → low ≤ high)
    → IsRoundedToOdd 1 j low (2 ^ gap) → j ≤ high
cut_below high low j zero full fits order (inl exact) =
    let le = order refl in omega (arith, exact, le)
cut_below high low j zero full fits order (inr near) =
    let le = order refl in
    omega (arith, near.above, le)
cut_below high low zero (suc gap) full fits order cut = omega arith
cut_below high low (suc i) (suc gap) full fits order cut =
    let some : 1 ≤ suc gap = omega arith in
    let two : 2 ^ 1 ≤ 2 ^ suc gap = pow-le-pow_right two_pos some in
    let wide : i * 2 ^ 1 ≤ i * 2 ^ suc gap = mul-le-mul_left i two in
    ⊎_elim
    (λ (exact : low ≡ suc i * 2 ^ suc gap). omega (arith, exact, wide, two, fits, full))
    (λ near. let above = near.above in omega (arith, above, wide, fits, full))
    cut

-- ---- fields of a magnitude

pub magnitude_biased : (c : Constants) (bits magnitude : ℕ) → IsInterchange (format_with c) (layout_with c)
    → magnitude ≡ bits % 2 ^ (c.bits - 1) → (fields_of (format_with c) (layout_with c) magnitude).biased_exponent
    ≡ (fields_of (format_with c) (layout_with c) bits).biased_exponent
magnitude_biased c bits magnitude law is =
    let t = trailing_bits (format_with c) in
    ap (λ (n : ℕ). n / 2 ^ t % 2 ^ c.exp_bits) is ∙
    word_field bits (c.bits - 1) t c.exp_bits (omega (arith, law.bits))

pub magnitude_trailing : (c : Constants) (bits magnitude : ℕ) → IsInterchange (format_with c) (layout_with c)
    → magnitude ≡ bits % 2 ^ (c.bits - 1) → (fields_of (format_with c) (layout_with c) magnitude).trailing
    ≡ (fields_of (format_with c) (layout_with c) bits).trailing
magnitude_trailing c bits magnitude law is =
    let t = trailing_bits (format_with c) in
    ap (λ (n : ℕ). n % 2 ^ t) is ∙ lower_mod bits (c.bits - 1) t (omega (arith, law.bits))

-- the parts of numbers are in the order of the numbers
parts_in_order : (low high t e : ℕ) → low ≤ high → high < 2 ^ (e + t)
    → (low / 2 ^ t % 2 ^ e ≤ high / 2 ^ t % 2 ^ e)
    × (low / 2 ^ t % 2 ^ e ≡ high / 2 ^ t % 2 ^ e → low % 2 ^ t ≤ high % 2 ^ t)
parts_in_order low high t e le fits =
    let p = 2 ^ t in
    let some : 0 < 2 ^ t = pow_pos t in
    let all : 2 ^ (e + t) ≡ 2 ^ e * 2 ^ t = pow-add 2 e t in
    let left : low / p * p + low % p ≡ low = div-add-mod' low p in
    let right : high / p * p + high % p ≡ high = div-add-mod' high p in
    let rest : high % p < p = mod_below high p some in
    let few : high / p < 2 ^ e =
    ⊎_elim (λ (l : high / p < 2 ^ e). l)
    (λ (many : 2 ^ e ≤ high / p).
    let more : 2 ^ e * p ≤ high / p * p = mul-le-mul_right p many in
    absurd (omega (arith, more, right, all, fits)))
    (cases_lt (high / p) (2 ^ e)) in
    let order : low / p ≤ high / p =
    ⊎_elim
    (λ (l : high / p < low / p).
    let more : (high / p + 1) * p ≤ low / p * p = mul-le-mul_right p (omega (arith, l)) in
    absurd (omega (arith, more, left, right, rest, le)))
    (λ (l : low / p ≤ high / p). l)
    (cases_lt (high / p) (low / p)) in
    let low_is : low / p % 2 ^ e ≡ low / p = mod-eq_of_lt (omega (arith, order, few)) in
    let high_is : high / p % 2 ^ e ≡ high / p = mod-eq_of_lt few in (
      omega (arith, low_is, high_is, order),
      λ same.
          let there : low / p * p ≡ high / p * p = ap (λ (n : ℕ). n * p) (omega (arith, low_is, high_is, same)) in
          omega (arith, there, left, right, le),
    )

-- ---- numbers

-- the number that the fields of bits give
abbrev pub number_of : Constants → ℕ → Number
number_of c bits =
    let x = fields_of (format_with c) (layout_with c) bits in
    record { negative = x.negative; place = x.biased_exponent - 1; significand = 2 ^ (c.precision - 1) + x.trailing }

encoded_number : (c : Constants) (bits : ℕ) → IsInterchange (format_with c) (layout_with c)
    → c.explicit_integer_bit ≡ false → 0 < (fields_of (format_with c) (layout_with c) bits).biased_exponent
    → (fields_of (format_with c) (layout_with c) bits).biased_exponent + 1 < 2 ^ c.exp_bits
    → (fields_of (format_with c) (layout_with c) bits).biased_exponent < 2 ^ 22 → IsNumberOf c bits (number_of c bits)
encoded_number c bits law implied some few near =
    let digits : c.precision ≡ c.precision - 1 + 1 = omega (arith, law.precise) in
    let power : 2 ^ c.precision ≡ 2 ^ (c.precision - 1) * 2 ^ 1 =
    ap (λ (n : ℕ). 2 ^ n) digits ∙ pow-add 2 (c.precision - 1) 1 in
    number_is c bits (fields_of (format_with c) (layout_with c) bits).biased_exponent (number_of c bits) implied refl
    some few near refl refl refl (omega (arith, trailing_low c bits implied, power))

-- two numbers whose magnitudes are in order
record AreInOrder (c : Constants) (h l high low above below : ℕ) : Type 0 where
  pub of_high : IsNumberOf c h (number_of c h)
  pub of_low : IsNumberOf c l (number_of c l)
  pub high_place : above ≡ (fields_of (format_with c) (layout_with c) h).biased_exponent
  pub low_place : below ≡ (fields_of (format_with c) (layout_with c) l).biased_exponent
  pub high_trailing : (fields_of (format_with c) (layout_with c) high).trailing
      ≡ (fields_of (format_with c) (layout_with c) h).trailing
  pub low_trailing : (fields_of (format_with c) (layout_with c) low).trailing
      ≡ (fields_of (format_with c) (layout_with c) l).trailing
  pub some_above : 1 ≤ above
  pub places : below - 1 ≤ above - 1
  pub significands : below - 1 ≡ above - 1
      → 2 ^ (c.precision - 1) + (fields_of (format_with c) (layout_with c) low).trailing
      ≤ 2 ^ (c.precision - 1) + (fields_of (format_with c) (layout_with c) high).trailing

in_order : (c : Constants) (h l high low above below : ℕ) → IsInterchange (format_with c) (layout_with c)
    → c.explicit_integer_bit ≡ false → high ≡ h % 2 ^ (c.bits - 1) → low ≡ l % 2 ^ (c.bits - 1) → low ≤ high
    → above ≡ (fields_of (format_with c) (layout_with c) high).biased_exponent
    → below ≡ (fields_of (format_with c) (layout_with c) low).biased_exponent → above < 2 ^ 22 → 0 < below
    → above + 1 < 2 ^ c.exp_bits → AreInOrder c h l high low above below
in_order c h l high low above below law implied high_is low_is le above_is below_is near some few =
    let t = trailing_bits (format_with c) in
    let width : c.bits - 1 ≡ c.exp_bits + t = omega (arith, law.bits) in
    let fits : high < 2 ^ (c.exp_bits + t) =
    rw high_is (rw width (mod_below h (2 ^ (c.exp_bits + t)) (pow_pos (c.exp_bits + t)))) in
    let parts = parts_in_order low high t c.exp_bits le fits in
    let high_place = above_is ∙ magnitude_biased c h high law high_is in
    let low_place = below_is ∙ magnitude_biased c l low law low_is in
    let order = parts.0 in
    record {
      of_high = encoded_number c h law implied (omega (arith, high_place, above_is, below_is, order, some))
          (omega (arith, high_place, few)) (omega (arith, high_place, near));
      of_low = encoded_number c l law implied (omega (arith, low_place, some))
          (omega (arith, low_place, above_is, below_is, order, few))
          (omega (arith, low_place, above_is, below_is, order, near));
      high_place = high_place;
      low_place = low_place;
      high_trailing = magnitude_trailing c h high law high_is;
      low_trailing = magnitude_trailing c l low law low_is;
      some_above = omega (arith, above_is, below_is, order, some);
      places = omega (arith, above_is, below_is, order);
      significands = λ same.
          let there = parts.1 (omega (arith, above_is, below_is, order, same, some)) in
          omega (arith, there);
    }

pub some_above : (c : Constants) (x y left right high low above below : ℕ) (b : Bool)
    → IsInterchange (format_with c) (layout_with c) → c.explicit_integer_bit ≡ false → left ≡ x % 2 ^ (c.bits - 1)
    → right ≡ y % 2 ^ (c.bits - 1) → (b ≡ true → right ≤ left) → (b ≡ false → left ≤ right) → high ≡ cond b left right
    → low ≡ cond b right left → above ≡ (fields_of (format_with c) (layout_with c) high).biased_exponent
    → below ≡ (fields_of (format_with c) (layout_with c) low).biased_exponent → above < 2 ^ 22 → 0 < below
    → above + 1 < 2 ^ c.exp_bits → 1 ≤ above
some_above c x y left right high low above below true law implied left_is right_is ordered other high_is low_is
    above_is below_is near some few =
    (in_order c x y high low above below law implied (high_is ∙ left_is) (low_is ∙ right_is)
    (rw (high_is, low_is) (ordered refl)) above_is below_is near some few).some_above
some_above c x y left right high low above below false law implied left_is right_is other ordered high_is low_is
    above_is below_is near some few =
    (in_order c y x high low above below law implied (high_is ∙ right_is) (low_is ∙ left_is)
    (rw (high_is, low_is) (ordered refl)) above_is below_is near some few).some_above

-- a sign that is changed if it is asked for
changed_sign : (negative changed : Bool) → not (beq negative changed) ≡ cond changed (not negative) negative
changed_sign true true = refl
changed_sign true false = refl
changed_sign false true = refl
changed_sign false false = refl

swapped_unlike : (left right : Bool) → not (beq left right) ≡ not (beq right left)
swapped_unlike true true = refl
swapped_unlike true false = refl
swapped_unlike false true = refl
swapped_unlike false false = refl

pub numbers_in_order : (c : Constants) (x y left right high low above below upper lower : ℕ)
    (changed b x_sign y_sign high_sign low_sign : Bool) → IsInterchange (format_with c) (layout_with c)
    → c.explicit_integer_bit ≡ false → left ≡ x % 2 ^ (c.bits - 1) → right ≡ y % 2 ^ (c.bits - 1)
    → (b ≡ true → right ≤ left) → (b ≡ false → left ≤ right)
    → high ≡ cond b left right → low ≡ cond b right left
    → above ≡ (fields_of (format_with c) (layout_with c) high).biased_exponent
    → below ≡ (fields_of (format_with c) (layout_with c) low).biased_exponent
    → above < 2 ^ 22 → 0 < below → above + 1 < 2 ^ c.exp_bits
    → x_sign ≡ (fields_of (format_with c) (layout_with c) x).negative
    → y_sign ≡ (fields_of (format_with c) (layout_with c) y).negative
    → high_sign ≡ cond b x_sign (not (beq y_sign changed)) → low_sign ≡ cond b (not (beq y_sign changed)) x_sign
    → upper ≡ 2 ^ (c.precision - 1) + (fields_of (format_with c) (layout_with c) high).trailing
    → lower ≡ 2 ^ (c.precision - 1) + (fields_of (format_with c) (layout_with c) low).trailing
    → AreOrderedNumbers c x y changed (record {
      high = record { negative = high_sign; place = above - 1; significand = upper };
      low = record { negative = low_sign; place = below - 1; significand = lower };
      unlike = not (beq x_sign (not (beq y_sign changed)));
    }) × (not (beq x_sign (not (beq y_sign changed))) ≡ not (beq high_sign low_sign))
numbers_in_order c x y left right high low above below upper lower changed true x_sign y_sign high_sign low_sign law
    implied left_is right_is ordered other high_is low_is above_is below_is near some few x_is y_is high_sign_is
    low_sign_is upper_is lower_is =
    let o = in_order c x y high low above below law implied (high_is ∙ left_is) (low_is ∙ right_is)
    (rw (high_is, low_is) (ordered refl)) above_is below_is near some few in (
      record {
        left = number_of c x;
        right = number_of c y;
        of_left = o.of_high;
        of_right = o.of_low;
        same = inl (
          rw (high_sign_is, x_is, o.high_place, upper_is, o.high_trailing) refl,
          rw (low_sign_is, y_is, o.low_place, lower_is, o.low_trailing, changed_sign) refl,
        );
        is_ordered = record { places = o.places; significands = rw (upper_is, lower_is) o.significands };
      },
      rw (high_sign_is, low_sign_is) refl,
    )
numbers_in_order c x y left right high low above below upper lower changed false x_sign y_sign high_sign low_sign law
    implied left_is right_is other ordered high_is low_is above_is below_is near some few x_is y_is high_sign_is
    low_sign_is upper_is lower_is =
    let o = in_order c y x high low above below law implied (high_is ∙ right_is) (low_is ∙ left_is)
    (rw (high_is, low_is) (ordered refl)) above_is below_is near some few in (
      record {
        left = number_of c x;
        right = number_of c y;
        of_left = o.of_low;
        of_right = o.of_high;
        same = inr (
          rw (high_sign_is, y_is, o.high_place, upper_is, o.high_trailing, changed_sign) refl,
          rw (low_sign_is, x_is, o.low_place, lower_is, o.low_trailing) refl,
        );
        is_ordered = record { places = o.places; significands = rw (upper_is, lower_is) o.significands };
      },
      rw (high_sign_is, low_sign_is) (swapped_unlike x_sign (not (beq y_sign changed))),
    )

-- ---- the sum of two numbers in order

-- the total of two numbers in order represents their sum
pub ordered_total : (precision m mp n np q : ℕ) (unit : ℤ) (left right unlike : Bool) → precision ≤ 59
    → np ≤ mp
    → (unit +ℤ pos (62 - precision)) ≡ pos mp → unlike ≡ not (beq left right)
    → (unlike ≡ false → IsRoundedToOdd (2 ^ 60) q
    (m * 2 ^ (62 - precision) * 2 ^ (mp - np) + n * 2 ^ (62 - precision)) (2 ^ (mp - np)))
    → (unlike ≡ true → IsApartToOdd (2 ^ 60) (m * 2 ^ (62 - precision) * 2 ^ (mp - np)) (n * 2 ^ (62 - precision))
    false q (2 ^ (mp - np)))
    → IsRepresentedToOdd (2 ^ 60) (signed left (m * 2 ^ mp) +ℤ signed right (n * 2 ^ np)) left unit q
ordered_total precision m mp n np q unit left right unlike short order place is together apart =
    total_read (2 ^ 60) 62 m mp n np q unit left right left
    (λ base high low. total_to_odd base (pos mp) (pos np) unit left right unlike false (2 ^ 60) 62 m n
    (62 - precision) (mp - np) q low (omega arith) (omega (arith, ints, order)) place
    (λ u. unlike_false left right (sym is ∙ u)) (λ u. unlike_true left right (sym is ∙ u))
    (λ u. (refl, together u)) apart)

zero_swapped : (mode : Round) (left right : Bool) → zero_sum_sign mode left right ≡ zero_sum_sign mode right left
zero_swapped mode true true = refl
zero_swapped mode true false = refl
zero_swapped mode false true = refl
zero_swapped mode false false = refl

-- the answer is the sum of two numbers
abbrev pub IsSumOf : Constants → Round → Option Encoded → Number → Number → Type 0
IsSumOf c mode answer x y =
    IfSome answer (IsNumberAnswer c (IsRounded (format_with c) mode (zero_sum_sign mode x.negative y.negative)
    (signed x.negative (quanta_of x) +ℤ signed y.negative (quanta_of y)) 1))

swapped_terms : (c : Constants) (mode : Round) (answer : Option Encoded) (x y : Number)
    → IsSumOf c mode answer x y → IsSumOf c mode answer y x
swapped_terms c mode answer x y given =
    subst₂
    (λ (b : Bool) (z : ℤ). IfSome answer (IsNumberAnswer c (IsRounded (format_with c) mode b z 1)))
    (zero_swapped mode x.negative y.negative)
    (swapped_sum (signed x.negative (quanta_of x)) (signed y.negative (quanta_of y))) given

-- the sum of two numbers in order is that of the numbers themselves
pub ordered_sum : (c : Constants) (mode : Round) (answer : Option Encoded) (x y high low : Number)
    → ((high ≡ x) × (low ≡ y)) ⊎ ((high ≡ y) × (low ≡ x)) → IsSumOf c mode answer high low → IsSumOf c mode answer x y
ordered_sum c mode answer x y high low (inl same) given =
    subst₂ (λ (a : Number) (b : Number). IsSumOf c mode answer a b) same.0 same.1 given
ordered_sum c mode answer x y high low (inr same) given =
    swapped_terms c mode answer y x
    (subst₂ (λ (a : Number) (b : Number). IsSumOf c mode answer a b) same.0 same.1 given)
