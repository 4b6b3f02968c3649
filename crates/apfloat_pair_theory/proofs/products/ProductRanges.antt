-- From the exponents of two doubles to the range of their product.
use Rattle.std.proofs.Common.{◌≡◌, ℕ, ◌+◌, ◌-◌, ◌*◌, ◌^◌, ◌<◌, ◌≤◌, true, sym, subst}
use Rattle.std.proofs.{Common.⊎_elim, Common.arith, Common.lit≤, Math.Nat.pow-le-pow_right}
use Rattle.std.proofs.Math.Nat.{le_of_mul-le-mul_right, lt_of_mul-lt-mul_right, mul-lt-mul_of_pos_right}
use Rattle.std.proofs.lemmas.{Nat.pow-add, Nat.pow_pos, Nat.mul-le, Nat.mul-lt, Bool.MatchBool-at_false, Bool.cases_lt}
use Rattle.std.proofs.lemmas.{Bool.ne_eqb, Bool.false≢true, Bool.ltb-true, Int.ints}
use Rattle.std.specs.Prelude.{ℤ, pos, neg_ℤ, ◌+ℤ◌, ◌-ℤ◌, ◌≤ℤ◌}
use Rattle.apfloat_model.specs.formats.Datum.{Datum, finite, infinite, nan}
use Rattle.apfloat_model.specs.{rounding.Grid.IsOnGrid, order.Classes.is_finite_non_zero, arithmetic.Exact.magnitude}
use Rattle.apfloat_model.specs.arithmetic.Exponents.{IsIlogb, IsLogarithm, zero_exponent}
use Rattle.apfloat_model.proofs.{general.Powers.two_pos, arithmetic.Signs.magnitude_signed}
use Rattle.apfloat_pair_theory.specs.{PairFormats.double, Pairs.Pair}
use Rattle.apfloat_pair_theory.specs.PairAccuracy.{HaveExponents, sum_reach}
use Rattle.apfloat_pair_theory.proofs.numbers.Signed.{IsGridNumber}
use Rattle.apfloat_pair_theory.proofs.numbers.WholeProducts.{IsWholeProduct, whole_size, whole_product}
use Rattle.apfloat_pair_theory.proofs.sums.SumSteps.{size}

-- ---- exponents

-- of two exponents that are not negative, the sum is not below a bound that is
pub have_exponents : (x y : Pair) (first second below above : ℕ) → is_finite_non_zero x.high ≡ true
    → is_finite_non_zero y.high ≡ true → IsIlogb double x.high (pos first) → IsIlogb double y.high (pos second)
    → first + second ≤ above → HaveExponents x y (neg_ℤ (pos below)) (pos above)
have_exponents x y first second below above p q e g l = record {
  first_is_number = p;
  second_is_number = q;
  first = pos first;
  second = pos second;
  is_first = e;
  is_second = g;
  not_below = omega (arith, ints);
  not_above = omega (arith, ints);
}

-- the numbers of digits of two numbers of quanta, and the range of their sum
pub record HaveLengths (m n least greatest : ℕ) : Type 0 where
  pub i : ℕ
  pub j : ℕ
  pub first_low : 2 ^ i ≤ m
  pub first_high : m < 2 ^ (i + 1)
  pub second_low : 2 ^ j ≤ n
  pub second_high : n < 2 ^ (j + 1)
  pub not_below : least ≤ i + j
  pub not_above : i + j ≤ greatest

-- a lower bound may be lowered
pub fewer : (m n least less greatest : ℕ) → less ≤ least → HaveLengths m n least greatest
    → HaveLengths m n less greatest
fewer m n least less greatest l r =
    record {
      i = r.i;
      j = r.j;
      first_low = r.first_low;
      first_high = r.first_high;
      second_low = r.second_low;
      second_high = r.second_high;
      not_below = omega (arith, r.not_below, l);
      not_above = r.not_above;
    }

-- the exponent of a double is the logarithm of its quanta
logarithm_of : (datum : Datum) (e : ℤ) → is_finite_non_zero datum ≡ true → IsIlogb double datum e
    → IsLogarithm double (size datum) e
logarithm_of (finite b m) e p h =
    let q = ltb-true 0 m p in
    subst (λ (n : ℕ). IsLogarithm double n e) (sym (magnitude_signed b m))
    (MatchBool-at_false (e ≡ zero_exponent) (IsLogarithm double m e) (ne_eqb m 0 (λ z. omega (arith, q, z))) h)
logarithm_of (infinite b) e p h = absurd (false≢true p)
logarithm_of (nan b s) e p h = absurd (false≢true p)

-- the lengths of two factors, from the least sum of their exponents
range_low : (i j least down : ℕ) (d e : ℤ) → d ≡ (pos i -ℤ pos 1074) → e ≡ (pos j -ℤ pos 1074)
    → neg_ℤ (pos down) ≤ℤ (d +ℤ e) → least + down ≤ 2148 → least ≤ i + j
range_low i j least down d e x y h l = omega (arith, ints)

-- the lengths of two factors, from the greatest sum of their exponents
range_high : (i j greatest high : ℕ) (d e : ℤ) → d ≡ (pos i -ℤ pos 1074) → e ≡ (pos j -ℤ pos 1074)
    → (d +ℤ e) ≤ℤ pos high → high + 2148 ≤ greatest → i + j ≤ greatest
range_high i j greatest high d e x y h l = omega (arith, ints)

-- the lengths of the high parts, from their exponents
pub lengths_of : (x y : Pair) (below above least greatest : ℕ) → HaveExponents x y (neg_ℤ (pos below)) (pos above)
    → least + below ≤ 2148 → above + 2148 ≤ greatest → HaveLengths (size x.high) (size y.high) least greatest
lengths_of x y below above least greatest h l k =
    let lx = logarithm_of x.high h.first h.first_is_number h.is_first in
    let ly = logarithm_of y.high h.second h.second_is_number h.is_second in
    record {
      i = lx.place;
      j = ly.place;
      first_low = lx.low;
      first_high = lx.high;
      second_low = ly.low;
      second_high = ly.high;
      not_below = range_low lx.place ly.place least below h.first h.second lx.is ly.is h.not_below l;
      not_above = range_high lx.place ly.place greatest above h.first h.second lx.is ly.is h.not_above k;
    }

-- ---- places

-- the place of a grid number, from its number of binary digits
pub place_reaches : (precision n k : ℕ) (grid : IsOnGrid precision n) → 2 ^ k ≤ n → k < precision + grid.place
place_reaches precision n k grid l =
    ⊎_elim
    (λ (h : k < precision + grid.place). h)
    (λ (h : precision + grid.place ≤ k).
    let a : n ≡ grid.significand * 2 ^ grid.place = grid.is in
    let b : grid.significand * 2 ^ grid.place < 2 ^ precision * 2 ^ grid.place =
    mul-lt-mul_of_pos_right grid.fits (pow_pos grid.place) in
    let c : 2 ^ (precision + grid.place) ≡ 2 ^ precision * 2 ^ grid.place = pow-add 2 precision grid.place in
    let d : 2 ^ (precision + grid.place) ≤ 2 ^ k = pow-le-pow_right two_pos h in
    absurd (omega arith))
    (cases_lt k (precision + grid.place))

-- if the logarithms add up to enough, the lowest digits of the product are not below the quantum
pub places_reach : (precision scale m n i j : ℕ) (m_grid : IsOnGrid precision m) (n_grid : IsOnGrid precision n)
    → 2 ^ i ≤ m → 2 ^ j ≤ n → scale + 2 * (precision - 1) ≤ i + j → scale ≤ m_grid.place + n_grid.place
places_reach precision scale m n i j m_grid n_grid l k r =
    let a : i < precision + m_grid.place = place_reaches precision m i m_grid l in
    let b : j < precision + n_grid.place = place_reaches precision n j n_grid k in
    omega arith

-- ---- the range of the product

-- a product is at least the power of two that the lengths of its factors give
pub product_low : (scale low m n x least greatest : ℕ) → HaveLengths m n least greatest → x * 2 ^ scale ≡ m * n
    → scale + low ≤ least → 2 ^ low ≤ x
product_low scale low m n x least greatest r e l =
    let a : 2 ^ r.i * 2 ^ r.j ≤ m * n = mul-le (2 ^ r.i) (2 ^ r.j) m n r.first_low r.second_low in
    let b : 2 ^ (r.i + r.j) ≡ 2 ^ r.i * 2 ^ r.j = pow-add 2 r.i r.j in
    let g = r.not_below in
    let h : low + scale ≤ r.i + r.j = omega (arith, g) in
    let c : 2 ^ (low + scale) ≤ 2 ^ (r.i + r.j) = pow-le-pow_right two_pos h in
    let d : 2 ^ (low + scale) ≡ 2 ^ low * 2 ^ scale = pow-add 2 low scale in
    let k : 2 ^ low * 2 ^ scale ≤ x * 2 ^ scale = omega arith in
    le_of_mul-le-mul_right k (pow_pos scale)

-- a product is below the power of two that the lengths of its factors give
pub product_high : (scale high m n x least greatest : ℕ) → HaveLengths m n least greatest → x * 2 ^ scale ≡ m * n
    → greatest + 2 ≤ high + scale → x < 2 ^ high
product_high scale high m n x least greatest r e l =
    let a : m * n < 2 ^ (r.i + 1) * 2 ^ (r.j + 1) =
    mul-lt m n (2 ^ (r.i + 1)) (2 ^ (r.j + 1)) r.first_high r.second_high in
    let b : 2 ^ (r.i + 1 + (r.j + 1)) ≡ 2 ^ (r.i + 1) * 2 ^ (r.j + 1) = pow-add 2 (r.i + 1) (r.j + 1) in
    let g = r.not_above in
    let h : r.i + 1 + (r.j + 1) ≤ high + scale = omega (arith, g) in
    let c : 2 ^ (r.i + 1 + (r.j + 1)) ≤ 2 ^ (high + scale) = pow-le-pow_right two_pos h in
    let d : 2 ^ (high + scale) ≡ 2 ^ high * 2 ^ scale = pow-add 2 high scale in
    let k : x * 2 ^ scale < 2 ^ high * 2 ^ scale = omega arith in
    lt_of_mul-lt-mul_right (2 ^ scale) k

-- ---- of doubles

-- x quanta are the exact product of a and c, neither tiny nor beyond twice the reach of sums
pub record IsInRange (a c x : ℤ) : Type 0 where
  pub whole : IsWholeProduct double.precision double.scale a c x
  pub some : 64 ≤ magnitude x
  pub within : magnitude x ≤ 2 * sum_reach

-- the ends of the range, in quanta
some_quanta : (x w : ℕ) → 64 ≤ w → w ≤ x → 64 ≤ x
some_quanta x w h k = omega arith

twice_reach : (x w t : ℕ) → x < w → w ≡ 2 * t → x ≤ 2 * t
twice_reach x w t h e = omega arith

-- if their exponents add up to -970 to 1021, the product of two doubles is in range
pub in_range : (a c : ℤ) → IsGridNumber double.precision a → IsGridNumber double.precision c
    → HaveLengths (magnitude a) (magnitude c) 1178 3169 → (x : ℤ) × IsInRange a c x
in_range a c g h r =
    let p = places_reach double.precision double.scale (magnitude a) (magnitude c) r.i r.j g h r.first_low r.second_low
    r.not_below in
    let w = whole_product double.precision double.scale a c g h p in
    let e = whole_size double.precision double.scale a c w.0 w.1 in
    let low : 2 ^ 104 ≤ magnitude w.0 =
    product_low double.scale 104 (magnitude a) (magnitude c) (magnitude w.0) 1178 3169 r e (lit≤ tt) in
    let high : magnitude w.0 < 2 ^ 2097 =
    product_high double.scale 2097 (magnitude a) (magnitude c) (magnitude w.0) 1178 3169 r e (lit≤ tt) in (
      w.0,
      record {
        whole = w.1;
        some = some_quanta (magnitude w.0) (2 ^ 104) (lit≤ tt) low;
        within = twice_reach (magnitude w.0) (2 ^ 2097) sum_reach high (pow-add 2 1 2096);
      },
    )
