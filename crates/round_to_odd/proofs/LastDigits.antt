-- Whether the last digit of a value is odd, from its significand.
use Rattle.std.proofs.Common.{◌≡◌, ℕ, ◌+◌, ◌-◌, ◌*◌, ◌/◌, ◌%◌, ◌^◌, ◌<◌, ◌≤◌, ◌⊎◌, not, eqb, sym, refl, ap, ◌∙◌, inl}
use Rattle.std.proofs.Common.{inr, ⊎_elim, arith, ℤ, pos, ◌+ℤ◌, ◌-ℤ◌, ◌≤ℤ◌}
use Rattle.std.proofs.Math.Nat.{mul-mod_left, mul-div_cancel, mul-le-mul_left, mul-le-mul_right, eq_of_mul-eq-mul_right}
use Rattle.std.proofs.lemmas.{Bool.cases_lt, Bool.ne_eqb, Bool.eq-eqb, Int.ints, Nat.pow_pos, Nat.div-add-mod'}
use Rattle.apfloat_model.specs.arithmetic.Exact.{up, down}
use Rattle.apfloat_model.specs.formats.{Format.Format, Lawful.Constants, Lawful.IsLawful, Lawful.format_with}
use Rattle.apfloat_model.specs.rounding.{Enclosure.IsEnclosed, Grid.IsAbove}
use Rattle.apfloat_model.proofs.arithmetic.Signs.{one_side, up_none}
use Rattle.apfloat_model.proofs.general.Powers.{exponent_below, twice_power}
use Rattle.apfloat_model.proofs.rounding.Neighbours.{above_is_next, above_unique}
use Rattle.round_to_odd.specs.Odd.{is_odd_below}
use Rattle.round_to_odd.proofs.OddPoints.{odd_below_is}

-- the scale, from the least exponent
pub scale_is : (constants : Constants) → IsLawful constants
    → pos (format_with constants).scale ≡ pos (constants.precision - 1) -ℤ constants.min_exp
scale_is constants law =
    let p = law.parameters in
    omega (arith, ints, p.precision_low, p.min_exp_high)

-- how far a digit is below the quantum, from the least exponent
pub ends_below : (f : Format) (least exponent : ℤ) (n : ℕ) → pos f.scale ≡ pos (f.precision - 1) -ℤ least
    → pos n ≡ least -ℤ pos (f.precision - 1) -ℤ exponent → n ≡ down (exponent +ℤ pos f.scale)
ends_below f least exponent n scale is =
    ⊎_elim (λ (none : up (exponent +ℤ pos f.scale) ≡ 0). omega (arith, ints, scale, is, none))
    (λ (none : down (exponent +ℤ pos f.scale) ≡ 0). omega (arith, ints, scale, is, none))
    (one_side (exponent +ℤ pos f.scale))

-- a digit that is not below it
pub ends_above : (f : Format) (least exponent : ℤ) → pos f.scale ≡ pos (f.precision - 1) -ℤ least
    → (least -ℤ pos (f.precision - 1)) ≤ℤ exponent → 0 ≡ down (exponent +ℤ pos f.scale)
ends_above f least exponent scale from =
    ⊎_elim (λ (none : up (exponent +ℤ pos f.scale) ≡ 0). omega (arith, ints, scale, from, none))
    (λ (none : down (exponent +ℤ pos f.scale) ≡ 0). sym none) (one_side (exponent +ℤ pos f.scale))

-- half of a number of units is a whole number of them if the number is even
pub half_is_whole : (m w : ℕ) → 0 < w → not (eqb (m * w % (2 * w)) 0) ≡ eqb (m % 2) 1
half_is_whole m w p =
    ⊎_elim
    (λ (z : m % 2 < 1).
    let k : ℕ = m / 2 in
    let e : m ≡ k * 2 = let d = div-add-mod' m 2 in omega (arith, d, z) in
    let e' : m * w ≡ k * (2 * w) = let s = ap (λ (x : ℕ). x * w) e in omega (arith, s) in
    let none : m * w % (2 * w) ≡ 0 = ap (λ (x : ℕ). x % (2 * w)) e' ∙ mul-mod_left k (2 * w) in
    rw (eq-eqb (m * w % (2 * w)) 0 none, ne_eqb (m % 2) 1 (λ y. omega (arith, y, z))) refl)
    (λ (z : 1 ≤ m % 2).
    let one : m % 2 ≡ 1 = omega (arith, z) in
    let some : m * w % (2 * w) ≡ 0 → ⊥ =
    λ (y : m * w % (2 * w) ≡ 0).
    let t : ℕ = m * w / (2 * w) in
    let e : m ≡ t * 2 = eq_of_mul-eq-mul_right w p m (t * 2) (omega (arith, div-add-mod' (m * w) (2 * w), y)) in
    omega (arith, e, one) in
    rw (ne_eqb (m * w % (2 * w)) 0 some, eq-eqb (m % 2) 1 one) refl)
    (cases_lt (m % 2) 1)

-- ---- the next point

next_above : (precision half m c n : ℕ) → IsEnclosed precision half m c n 1 → n ≡ m * 2 ^ c
    → IsAbove precision ((m + 1) * 2 ^ c) (n + 1) 1
next_above precision half m c n i e =
    let between : IsEnclosed precision half m c (2 * n + 1) 2 = record {
      double = i.double;
      fits = i.fits;
      full = i.full;
      from = omega (arith, e);
      to = omega (arith, e, pow_pos c);
    } in
    let a : IsAbove precision ((m + 1) * 2 ^ c) (2 * n + 1) 2 =
    above_is_next precision half m c (2 * n + 1) 2 between (omega (arith, e)) in
    record {
      on_grid = a.on_grid;
      not_below = omega (arith, a.not_below);
      least = λ other g l. a.least other g (omega (arith, l));
    }

-- the last digit of a point is that of its significand
last_digit : (precision q m c above : ℕ) → IsEnclosed precision (2 ^ (precision - 1)) m c q 1 → q ≡ m * 2 ^ c
    → IsAbove precision above (q + 1) 1 → is_odd_below q above ≡ eqb (m % 2) 1
last_digit precision q m c above i is next =
    let above_is : above ≡ (m + 1) * 2 ^ c = above_unique precision above ((m + 1) * 2 ^ c) (q + 1) 1 next
    (next_above precision (2 ^ (precision - 1)) m c q i is) in
    ap (λ (z : ℕ). is_odd_below q z) above_is ∙ ap (λ (z : ℕ). is_odd_below z ((m + 1) * 2 ^ c)) is ∙ odd_below_is m c

-- ---- the digit of the quantum, or the last one above it

-- a significand that ends below the quantum, whose last digits are zeros, is the quanta with these digits
pub zeros_cut : (q s d : ℕ) → q * 2 ^ d ≡ s → s / 2 ^ d ≡ q
zeros_cut q s d e = ap (λ (n : ℕ). n / 2 ^ d) (sym e) ∙ mul-div_cancel q (pow_pos d)

-- fewer digits are below the quantum than the significand has
pub few_below : (precision q s : ℕ) (unit : ℤ) → 0 < precision → 0 < q → s < 2 ^ precision
    → q * 2 ^ down unit ≡ s * 2 ^ up unit → down unit < precision
few_below precision q s unit digits some fits number =
    ⊎_elim
    (λ (none : down unit < 1). omega (arith, none, digits))
    (λ (below : 1 ≤ down unit).
    let e : up unit ≡ 0 = up_none unit below in
    let at : q * 2 ^ down unit ≡ s = number ∙ ap (λ (n : ℕ). s * 2 ^ n) e ∙ omega arith in
    exponent_below (down unit) precision (omega (arith, mul-le-mul_right (2 ^ down unit) some, at, fits)))
    (cases_lt (down unit) 1)

-- the last digit is odd exactly if that digit of the significand is
pub odd_read : (precision q s above : ℕ) (unit : ℤ) → 0 < precision → s < 2 ^ precision → 2 ^ (precision - 1) ≤ s
    → q * 2 ^ down unit ≡ s * 2 ^ up unit → IsAbove precision above (q + 1) 1
    → eqb (s / 2 ^ down unit % 2) 1 ≡ is_odd_below q above
odd_read precision q s above unit some fits full number next =
    let half : ℕ = 2 ^ (precision - 1) in
    let size : precision - 1 + 1 ≡ precision = omega (arith, some) in
    let double : 2 ^ precision ≡ 2 * half = ap (λ (n : ℕ). 2 ^ n) (sym size) ∙ twice_power (precision - 1) in
    ⊎_elim
    (λ (none : down unit < 1).
    let d : down unit ≡ 0 = omega (arith, none) in
    let is : q ≡ s * 2 ^ up unit = omega arith ∙ ap (λ (n : ℕ). q * 2 ^ n) (sym d) ∙ number in
    let i : IsEnclosed precision half s (up unit) q 1 = enclosed half s (up unit) double fits (inr full) is in
    let whole : s / 2 ^ down unit ≡ s = ap (λ (n : ℕ). s / 2 ^ n) d ∙ omega arith in
    ap (λ (n : ℕ). eqb (n % 2) 1) whole ∙ sym (last_digit precision q s (up unit) above i is next))
    (λ (below : 1 ≤ down unit).
    let u : up unit ≡ 0 = up_none unit below in
    let at : q * 2 ^ down unit ≡ s = number ∙ ap (λ (n : ℕ). s * 2 ^ n) u ∙ omega arith in
    let is : q ≡ q * 2 ^ 0 = omega arith in
    let i : IsEnclosed precision half q 0 q 1 =
    enclosed half q 0 double (omega (arith, mul-le-mul_left q (pow_pos (down unit)), at, fits)) (inl refl) is in
    ap (λ (n : ℕ). eqb (n % 2) 1) (zeros_cut q s (down unit) at)
    ∙ sym (last_digit precision q q 0 above i is next))
    (cases_lt (down unit) 1)
  where
    enclosed : (half m c : ℕ) → 2 ^ precision ≡ 2 * half → m < 2 ^ precision → (c ≡ 0) ⊎ (half ≤ m) → q ≡ m * 2 ^ c
        → IsEnclosed precision half m c q 1
    enclosed half m c double fits full is =
        record {
          double = double;
          fits = fits;
          full = full;
          from = omega (arith, is);
          to = omega (arith, is, pow_pos c);
        }
