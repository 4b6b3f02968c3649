-- Worked rows of square roots. Their values were computed elsewhere, from integer square roots.
use Rattle.std.proofs.Common.{◌≡◌, ℕ, ◌+◌, ◌-◌, ◌*◌, ◌^◌, ◌<◌, ◌≤◌, ◌⊎◌, Bool, true, false, ltb, leb, eqb, ◌&&◌, ◌||◌}
use Rattle.std.proofs.Common.{if◌then◌else◌, refl, sym, ⊎_elim, inl, inr, arith}
use Rattle.std.proofs.Math.Arith.{lt_of_le-ne}
use Rattle.std.proofs.lemmas.Bool.{cases_lt, and_parts, or_cases, leb-true, ltb-true, eqb-true, eqb-false}
use Rattle.apfloat_model.specs.declared.kinds.Round.{Round, TheVariants.NearestTiesToEven, TheVariants.TowardPositive}
use Rattle.apfloat_model.specs.declared.kinds.Round.TheVariants.{TowardNegative, TowardZero, NearestTiesToAway}
use Rattle.apfloat_model.specs.declared.kinds.NonfiniteBehavior.TheVariants.{IEEE754}
use Rattle.apfloat_model.specs.formats.{Format.Format, Datum.Datum, Datum.finite, Nan.invalid_bit}
use Rattle.apfloat_model.specs.rounding.Rounding.{delivered_value, ok_bits, underflow_bit, inexact_bit}
use Rattle.apfloat_model.specs.arithmetic.Roots.{IsBelowRoot, IsAboveRoot, root_between, IsRootPick, root_status}
use Rattle.apfloat_model.specs.arithmetic.Roots.{IsDeliveredRoot, IsRoot}
use Rattle.apfloat_model.proofs.general.Choices.{cond_same}
use Rattle.apfloat_model.proofs.arithmetic.RootSides.{root_lt, root_le, square_le}
use Rattle.apfloat_model.proofs.rounding.Neighbours.{none_between, multiple_on_grid, next_on_grid}
use Rattle.apfloat_model.proofs.rows.RowsIn.{half, single, e5m2, e4m3fn, e4m3fnuz, in_half, in_single, in_e5m2}
use Rattle.apfloat_model.proofs.rows.RowsIn.{in_e4m3fn, in_e4m3fnuz, answer}

-- ---- how a root is proved: its neighbours are m * 2 ^ c and (m + 1) * 2 ^ c

abbrev encloses_root : ℕ → ℕ → ℕ → ℕ → Bool
encloses_root precision m c square =
    eqb (2 ^ precision) (2 * 2 ^ (precision - 1)) && (ltb m (2 ^ precision) && ((eqb c 0 || leb (2 ^ (precision - 1)) m)
    && (leb (m * 2 ^ c * (m * 2 ^ c)) square && ltb square ((m + 1) * 2 ^ c * ((m + 1) * 2 ^ c)))))

-- the root itself if it is the lower neighbour, otherwise the neighbour that the mode picks
abbrev picked_root : Round → ℕ → ℕ → ℕ → ℕ
picked_root mode m c square =
    if eqb square (m * 2 ^ c * (m * 2 ^ c)) then m * 2 ^ c else root_between mode (m * 2 ^ c) ((m + 1) * 2 ^ c) square 1

module _ (precision m c square : ℕ) (double : 2 ^ precision ≡ 2 * 2 ^ (precision - 1)) (fits : m < 2 ^ precision)
    (full : (c ≡ 0) ⊎ (2 ^ (precision - 1) ≤ m)) (from : m * 2 ^ c * (m * 2 ^ c) ≤ square)
    (to : square < (m + 1) * 2 ^ c * ((m + 1) * 2 ^ c)) where
  below_is_low : IsBelowRoot precision (m * 2 ^ c) square 1
  below_is_low = record {
    on_grid = multiple_on_grid precision m c fits;
    not_above = omega (arith, from);
    greatest = λ other g l.
        ⊎_elim
        (λ (q : m * 2 ^ c < other).
        let k : (m + 1) * 2 ^ c ≤ other = none_between precision (2 ^ (precision - 1)) m c other double full g q in
        let s : (m + 1) * 2 ^ c * ((m + 1) * 2 ^ c) ≤ other * other = square_le _ _ k in
        absurd (omega (arith, l, s, to)))
        (λ (q : other ≤ m * 2 ^ c). q)
        (cases_lt (m * 2 ^ c) other);
  }

  above_is_low : square ≡ m * 2 ^ c * (m * 2 ^ c) → IsAboveRoot precision (m * 2 ^ c) square 1
  above_is_low e = record {
    on_grid = multiple_on_grid precision m c fits;
    not_below = omega (arith, e);
    least = λ other g l. root_le (m * 2 ^ c) other (omega (arith, e, l));
  }

  above_is_high : m * 2 ^ c * (m * 2 ^ c) < square → IsAboveRoot precision ((m + 1) * 2 ^ c) square 1
  above_is_high h = record {
    on_grid = next_on_grid precision (2 ^ (precision - 1)) m c double fits;
    not_below = omega (arith, to);
    least = λ other g l.
        let k : m * 2 ^ c < other = root_lt (m * 2 ^ c) other (omega (arith, h, l)) in
        none_between precision (2 ^ (precision - 1)) m c other double full g k;
  }

  root_is_picked : (mode : Round) (same : Bool) → eqb square (m * 2 ^ c * (m * 2 ^ c)) ≡ same
      → IsRootPick precision mode square 1
      (if same then m * 2 ^ c else root_between mode (m * 2 ^ c) ((m + 1) * 2 ^ c) square 1)
  root_is_picked mode true e = record {
    below = m * 2 ^ c;
    above = m * 2 ^ c;
    is_below = below_is_low;
    is_above = above_is_low (eqb-true _ _ e);
    is = cond_same _ (m * 2 ^ c);
  }
  root_is_picked mode false e = record {
    below = m * 2 ^ c;
    above = (m + 1) * 2 ^ c;
    is_below = below_is_low;
    is_above = above_is_high (lt_of_le-ne from (λ s. eqb-false _ _ e (sym s)));
    is = refl;
  }

-- a root is proved by the enclosing significand, and the value and the status that follow
rooted : {format : Format} {mode : Round} {square : ℕ} {value : Datum} {status : ℕ} (m c : ℕ)
    → encloses_root format.precision m c square ≡ true
    → value ≡ delivered_value format mode false (picked_root mode m c square)
    → status ≡ root_status format mode square 1 (picked_root mode m c square)
    → IsDeliveredRoot format mode square 1 value status
rooted {format} {mode} {square} m c e v s =
    let x = and_parts _ _ e in
    let y = and_parts _ _ x.1 in
    let z = and_parts _ _ y.1 in
    let u = and_parts _ _ z.1 in
    record {
      pick = picked_root mode m c square;
      is_pick = root_is_picked format.precision m c square (eqb-true _ _ x.0) (ltb-true _ _ y.0)
          (⊎_elim (λ n. inl (eqb-true _ _ n)) (λ n. inr (leb-true _ _ n)) (or_cases _ _ z.0)) (leb-true _ _ u.0)
          (ltb-true _ _ u.1) mode (eqb square (m * 2 ^ c * (m * 2 ^ c))) refl;
      value_is = v;
      status_is = s;
    }

-- ---- half precision

-- 4 is the square of 2, in each mode
root_of_four : (mode : Round) → IsRoot half mode (in_half 0x4400) (in_half 0x4000) ok_bits
root_of_four mode = rooted 1024 15 refl refl refl

-- 2: the neighbours of its root are 0x3da8, which is nearer, and 0x3da9
root_of_two : IsRoot half NearestTiesToEven (in_half 0x4000) (in_half 0x3da8) inexact_bit
root_of_two = rooted 1448 14 refl refl refl

root_of_two_to_away : IsRoot half NearestTiesToAway (in_half 0x4000) (in_half 0x3da8) inexact_bit
root_of_two_to_away = rooted 1448 14 refl refl refl

root_of_two_upward : IsRoot half TowardPositive (in_half 0x4000) (in_half 0x3da9) inexact_bit
root_of_two_upward = rooted 1448 14 refl refl refl

root_of_two_downward : IsRoot half TowardNegative (in_half 0x4000) (in_half 0x3da8) inexact_bit
root_of_two_downward = rooted 1448 14 refl refl refl

root_of_two_cut : IsRoot half TowardZero (in_half 0x4000) (in_half 0x3da8) inexact_bit
root_of_two_cut = rooted 1448 14 refl refl refl

-- 3: the upper neighbour is nearer
root_of_three : IsRoot half NearestTiesToEven (in_half 0x4200) (in_half 0x3eee) inexact_bit
root_of_three = rooted 1773 14 refl refl refl

root_of_three_cut : IsRoot half TowardZero (in_half 0x4200) (in_half 0x3eed) inexact_bit
root_of_three_cut = rooted 1773 14 refl refl refl

-- the value next below 1 is the lower neighbour of its own root, and 1 is that of the value next above 1
root_below_one : IsRoot half NearestTiesToEven (in_half 0x3bff) (in_half 0x3bff) inexact_bit
root_below_one = rooted 2047 13 refl refl refl

root_above_one : IsRoot half NearestTiesToEven (in_half 0x3c01) (in_half 0x3c00) inexact_bit
root_above_one = rooted 1024 14 refl refl refl

-- the least positive value, 2 ^ -24, is a square, and twice that value is not
root_of_the_least : (mode : Round) → IsRoot half mode (in_half 0x0001) (in_half 0x0c00) ok_bits
root_of_the_least mode = rooted 1024 2 refl refl refl

root_of_twice_the_least : IsRoot half NearestTiesToEven (in_half 0x0002) (in_half 0x0da8) inexact_bit
root_of_twice_the_least = rooted 1448 2 refl refl refl

-- the largest value: its root is just below 256
root_of_the_largest : IsRoot half NearestTiesToEven (in_half 0x7bff) (in_half 0x5bff) inexact_bit
root_of_the_largest = rooted 2047 21 refl refl refl

root_of_the_largest_upward : IsRoot half TowardPositive (in_half 0x7bff) (in_half 0x5c00) inexact_bit
root_of_the_largest_upward = rooted 2047 21 refl refl refl

-- ---- other formats

root_of_a_tenth : IsRoot single NearestTiesToEven (in_single 0x3dcccccd) (in_single 0x3ea1e89b) inexact_bit
root_of_a_tenth = rooted 10610843 124 refl refl refl

root_of_two_in_e5m2 : IsRoot e5m2 NearestTiesToEven (in_e5m2 0x40) (in_e5m2 0x3e) inexact_bit
root_of_two_in_e5m2 = rooted 5 14 refl refl refl

root_of_the_largest_in_e4m3fn : IsRoot e4m3fn TowardPositive (in_e4m3fn 0x7e) (in_e4m3fn 0x5b) inexact_bit
root_of_the_largest_in_e4m3fn = rooted 10 10 refl refl refl

root_of_two_in_e4m3fnuz : IsRoot e4m3fnuz NearestTiesToEven (in_e4m3fnuz 0x48) (in_e4m3fnuz 0x43) inexact_bit
root_of_two_in_e4m3fnuz = rooted 11 7 refl refl refl

-- with eleven digits and exponents from -4, the quantum is 2 ^ -14, and a root of few quanta is denormal
abbrev few_exponents : Format
few_exponents = record {
  precision = 11;
  scale = 14;
  span = 20;
  nonfinite = IEEE754;
  explicit_integer_bit = false;
  tiny_before_rounding = false;
  ieee_flags = false;
}

-- an exact denormal root raises no flag
denormal_root : (mode : Round) → IsRoot few_exponents mode (finite false 1) (finite false 128) ok_bits
denormal_root mode = rooted 128 0 refl refl refl

-- an inexact denormal root underflows
tiny_root : IsRoot few_exponents NearestTiesToEven (finite false 3) (finite false 222) (underflow_bit + inexact_bit)
tiny_root = rooted 221 0 refl refl refl

-- an inexact denormal root underflows too if tininess is detected before rounding
tiny_root_before : IsRoot (record few_exponents { tiny_before_rounding = true }) TowardPositive (finite false 63)
    (finite false 1016) (underflow_bit + inexact_bit)
tiny_root_before = rooted 1015 0 refl refl refl

-- ---- without a rounding

-- zeros keep their signs
root_of_zero : (mode : Round) → IsRoot half mode (in_half 0x0000) (in_half 0x0000) ok_bits
root_of_zero mode = answer

root_of_minus_zero : (mode : Round) → IsRoot half mode (in_half 0x8000) (in_half 0x8000) ok_bits
root_of_minus_zero mode = answer

root_of_infinity : (mode : Round) → IsRoot half mode (in_half 0x7c00) (in_half 0x7c00) ok_bits
root_of_infinity mode = answer

-- the root of a negative number, however small, and of minus infinity is invalid
root_of_minus_one : (mode : Round) → IsRoot half mode (in_half 0xbc00) (in_half 0x7e00) invalid_bit
root_of_minus_one mode = answer

root_of_minus_the_least : (mode : Round) → IsRoot half mode (in_half 0x8001) (in_half 0x7e00) invalid_bit
root_of_minus_the_least mode = answer

root_of_minus_infinity : (mode : Round) → IsRoot half mode (in_half 0xfc00) (in_half 0x7e00) invalid_bit
root_of_minus_infinity mode = answer

-- the NaN that a format without infinities has
root_of_minus_one_in_e4m3fn : (mode : Round) → IsRoot e4m3fn mode (in_e4m3fn 0xb8) (in_e4m3fn 0x7f) invalid_bit
root_of_minus_one_in_e4m3fn mode = answer

root_of_minus_one_in_e4m3fnuz : (mode : Round) → IsRoot e4m3fnuz mode (in_e4m3fnuz 0xc0) (in_e4m3fnuz 0x80) invalid_bit
root_of_minus_one_in_e4m3fnuz mode = answer

-- a quiet NaN is kept with its sign, and a signaling one is made quiet
root_of_nan : (mode : Round) → IsRoot half mode (in_half 0xfe01) (in_half 0xfe01) ok_bits
root_of_nan mode = answer

root_of_signaling : (mode : Round) → IsRoot half mode (in_half 0x7d00) (in_half 0x7f00) invalid_bit
root_of_signaling mode = answer
