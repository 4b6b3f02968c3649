-- A magnitude rounded to odd compares with each even multiple of the last place as the magnitude itself does.
use Rattle.std.proofs.Common.{◌≡◌, ℕ, ◌+◌, ◌-◌, ◌*◌, ◌/◌, ◌%◌, ◌^◌, ◌<◌, ◌≤◌}
use Rattle.std.proofs.Common.{◌⊎◌, Bool, true, false, cond, eqb, sym, ap, ◌∙◌, subst, inl, inr, ⊎_elim}
use Rattle.std.proofs.{Common.arith, Math.Nat.mul-le-mul_left, Math.Nat.mul-le-mul_right}
use Rattle.std.proofs.Math.Nat.{lt_of_mul-lt-mul_right, eq_of_mul-eq-mul_right, mul-div_cancel, pow-le-pow_right}
use Rattle.std.proofs.lemmas.{Nat.pow-add, Nat.pow_pos, Bool.cases_lt, Bool.eq-eqb, Bool.ne_eqb}
use Rattle.apfloat_model.specs.rounding.{Grid.IsOnGrid, Grid.IsBelow, Grid.IsAbove, Enclosure.IsEnclosed}
use Rattle.apfloat_model.proofs.general.{Choices.cond_same, Powers.two_pos, Powers.twice_half, Powers.twice_power}
use Rattle.apfloat_model.proofs.rounding.{Laws.exact_above, Neighbours.below_is, Neighbours.above_is_next}
use Rattle.apfloat_model.proofs.rounding.{Neighbours.below_unique, Neighbours.above_unique, NeighboursExist.enclosed_at}
use Rattle.round_to_odd.specs.Odd.{is_odd_below, odd_between}

-- ---- grids

-- twice a grid point has as many digits
pub twice_on_grid : (digits n : ℕ) → IsOnGrid digits n → IsOnGrid digits (2 * n)
twice_on_grid digits n g =
    let k : g.significand * 2 ^ (g.place + 1) ≡ g.significand * (2 * 2 ^ g.place) =
    ap (λ (x : ℕ). g.significand * x) (twice_power g.place) in
    record { significand = g.significand; place = g.place + 1; fits = g.fits; is = omega (arith, k, g.is) }

-- a grid point is on each grid with more digits
pub wider_grid : (digits wide n : ℕ) → digits ≤ wide → IsOnGrid digits n → IsOnGrid wide n
wider_grid digits wide n l g =
    let k : 2 ^ digits ≤ 2 ^ wide = pow-le-pow_right two_pos l in
    record { significand = g.significand; place = g.place; fits = omega (arith, k, g.fits); is = g.is }

-- a grid point times a power of two has as many digits
pub moved_on_grid : (digits n w : ℕ) → IsOnGrid digits n → IsOnGrid digits (n * 2 ^ w)
moved_on_grid digits n w g =
    let s = g.significand in
    let k : s * 2 ^ (g.place + w) ≡ s * (2 ^ g.place * 2 ^ w) = ap (λ (x : ℕ). s * x) (pow-add 2 g.place w) in
    let e : n * 2 ^ w ≡ s * 2 ^ g.place * 2 ^ w = ap (λ (x : ℕ). x * 2 ^ w) g.is in
    record { significand = s; place = g.place + w; fits = g.fits; is = omega (arith, k, e) }

-- ---- neighbours

-- The neighbours of a magnitude: one point that is the magnitude, or two consecutive multiples of a power of two.
pub record AreNeighbours (precision below above amount parts : ℕ) : Type 0 where
  pub m : ℕ
  pub c : ℕ
  pub enclosed : IsEnclosed precision (2 ^ (precision - 1)) m c amount parts
  pub below_is : below ≡ m * 2 ^ c
  pub above_is : ((amount ≡ below * parts) × (above ≡ below)) ⊎ ((below * parts < amount) × (above ≡ (m + 1) * 2 ^ c))

pub neighbours : (precision below above amount parts : ℕ) → 0 < precision → 0 < parts
    → IsBelow precision below amount parts → IsAbove precision above amount parts
    → AreNeighbours precision below above amount parts
neighbours precision below above amount parts l p x y =
    let half : ℕ = 2 ^ (precision - 1) in
    let r = enclosed_at precision half amount parts p (sym (twice_half precision l)) in
    let c = r.0 in
    let m : ℕ = amount / (parts * 2 ^ c) in
    let i : IsEnclosed precision half m c amount parts = r.1 in
    let b : below ≡ m * 2 ^ c =
    below_unique precision below (m * 2 ^ c) amount parts x (below_is precision half m c amount parts i) in
    record {
      m = m;
      c = c;
      enclosed = i;
      below_is = b;
      above_is =
          ⊎_elim
          (λ (q : below * parts < amount).
          inr ((
            q,
            above_unique precision above ((m + 1) * 2 ^ c) amount parts y
                (above_is_next precision half m c amount parts i (subst (λ (z : ℕ). z * parts < amount) b q)),
          )))
          (λ (q : amount ≤ below * parts).
          let e : amount ≡ below * parts = omega (arith, q, x.not_above) in
          inl ((
            e,
            above_unique precision above below amount parts y
                (exact_above precision below amount parts p x.on_grid e),
          )))
          (cases_lt (below * parts) amount);
    }

-- the lower of two consecutive multiples is odd if and only if its factor is
pub odd_below_is : (m c : ℕ) → is_odd_below (m * 2 ^ c) ((m + 1) * 2 ^ c) ≡ eqb (m % 2) 1
odd_below_is m c =
    let d : (m + 1) * 2 ^ c - m * 2 ^ c ≡ 2 ^ c = omega arith in
    ap (λ (x : ℕ). eqb (m * 2 ^ c / x % 2) 1) d ∙ ap (λ (x : ℕ). eqb (x % 2) 1) (mul-div_cancel m (pow_pos c))

-- ---- an odd point

even_factor : (k s w t : ℕ) → 0 < w → k * w ≡ 2 * (s * (w * t)) → k ≡ 2 * (s * t)
even_factor k s w t p e = eq_of_mul-eq-mul_right w p k (2 * (s * t)) (omega (arith, e))

few_factor : (k s w t : ℕ) → 0 < w → 0 < t → k * (w * (2 * t)) ≡ 2 * (s * w) → k ≤ s
few_factor k s w t p q e =
    let a : k * t ≡ s = eq_of_mul-eq-mul_right w p (k * t) s (omega (arith, e)) in
    omega (arith, a, mul-le-mul_left k q)

-- a point with an odd last digit is not an even multiple of the last place
pub not_even : (precision k c n : ℕ) → k % 2 ≡ 1 → (c ≡ 0) ⊎ (2 ^ (precision - 1) ≤ k)
    → IsOnGrid (precision - 1) n → k * 2 ^ c ≡ 2 * n → ⊥
not_even precision k c n o (inl z) g e =
    let e' : k * 2 ^ 0 ≡ 2 * n = subst (λ (x : ℕ). k * 2 ^ x ≡ 2 * n) z e in
    absurd (omega (arith, o, e'))
not_even precision k c n o (inr f) g e =
    let s = g.significand in
    let j = g.place in
    let is : 2 * n ≡ 2 * (s * 2 ^ j) = ap (λ (x : ℕ). 2 * x) g.is in
    let e' : k * 2 ^ c ≡ 2 * (s * 2 ^ j) = e ∙ is in
    ⊎_elim
    (λ (q : j < c).
    let t = c - j - 1 in
    let a : c ≡ j + (t + 1) = omega arith in
    let b : 2 ^ (j + (t + 1)) ≡ 2 ^ j * (2 * 2 ^ t) =
    pow-add 2 j (t + 1) ∙ ap (λ (x : ℕ). 2 ^ j * x) (twice_power t) in
    let d : k * (2 ^ j * (2 * 2 ^ t)) ≡ 2 * (s * 2 ^ j) =
    ap (λ (x : ℕ). k * x) (sym (ap (λ (x : ℕ). 2 ^ x) a ∙ b)) ∙ e' in
    absurd (omega (arith, few_factor k s (2 ^ j) (2 ^ t) (pow_pos j) (pow_pos t) d, g.fits, f)))
    (λ (q : c ≤ j).
    let t = j - c in
    let a : j ≡ c + t = omega arith in
    let b : 2 ^ j ≡ 2 ^ c * 2 ^ t = ap (λ (x : ℕ). 2 ^ x) a ∙ pow-add 2 c t in
    let d : k * 2 ^ c ≡ 2 * (s * (2 ^ c * 2 ^ t)) = e' ∙ ap (λ (x : ℕ). 2 * (s * x)) b in
    absurd (omega (arith, even_factor k s (2 ^ c) (2 ^ t) (pow_pos c) d, o)))
    (cases_lt j c)

-- ---- comparisons

-- the point compares with twice each number of `digits` digits as the magnitude does
pub record AgreesAtEven (digits amount parts point : ℕ) : Type 0 where
  pub less : (n : ℕ) → IsOnGrid digits n → 2 * n * parts < amount → 2 * n < point
  pub same : (n : ℕ) → IsOnGrid digits n → 2 * n * parts ≡ amount → 2 * n ≡ point
  pub more : (n : ℕ) → IsOnGrid digits n → amount < 2 * n * parts → point < 2 * n

exact_agrees : (digits amount parts point : ℕ) → 0 < parts → amount ≡ point * parts
    → AgreesAtEven digits amount parts point
exact_agrees digits amount parts point p e = record {
  less = λ n g h. lt_of_mul-lt-mul_right parts (omega (arith, h, e));
  same = λ n g h. eq_of_mul-eq-mul_right parts p (2 * n) point (h ∙ e);
  more = λ n g h. lt_of_mul-lt-mul_right parts (omega (arith, h, e));
}

-- a neighbour that is not such a number agrees, if the magnitude is strictly between its neighbours
between_agrees : (digits amount parts below above point : ℕ) → below * parts < amount
    → ((n : ℕ) → IsOnGrid digits n → 2 * n * parts ≤ amount → 2 * n ≤ below)
    → ((n : ℕ) → IsOnGrid digits n → amount ≤ 2 * n * parts → above ≤ 2 * n) → below ≤ point → point ≤ above
    → ((n : ℕ) → IsOnGrid digits n → point ≡ 2 * n → ⊥) → AgreesAtEven digits amount parts point
between_agrees digits amount parts below above point s lower upper l h apart = record {
  less = λ n g q.
      let k = lower n g (omega (arith, q)) in
      ⊎_elim (λ (r : 2 * n < point). r) (λ (r : point ≤ 2 * n). absurd (apart n g (omega (arith, k, r, l))))
      (cases_lt (2 * n) point);
  same = λ n g q.
      let k = lower n g (omega (arith, q)) in
      absurd (omega (arith, mul-le-mul_right parts k, q, s));
  more = λ n g q.
      let k = upper n g (omega (arith, q)) in
      ⊎_elim (λ (r : point < 2 * n). r) (λ (r : 2 * n ≤ point). absurd (apart n g (omega (arith, k, r, h))))
      (cases_lt point (2 * n));
}

-- the odd neighbour agrees with the magnitude at even multiples of its last place
pub odd_agrees : (precision below above amount parts : ℕ) → 0 < precision → 0 < parts
    → IsBelow precision below amount parts → IsAbove precision above amount parts
    → AgreesAtEven (precision - 1) amount parts (odd_between below above)
odd_agrees precision below above amount parts l p x y =
    let i = neighbours precision below above amount parts l p x y in
    let m = i.m in
    let c = i.c in
    let even : (n : ℕ) → IsOnGrid (precision - 1) n → IsOnGrid precision (2 * n) =
    λ n g. wider_grid (precision - 1) precision (2 * n) (omega arith) (twice_on_grid (precision - 1) n g) in
    let lower : (n : ℕ) → IsOnGrid (precision - 1) n → 2 * n * parts ≤ amount → 2 * n ≤ below =
    λ n g h. x.greatest (2 * n) (even n g) h in
    let upper : (n : ℕ) → IsOnGrid (precision - 1) n → amount ≤ 2 * n * parts → above ≤ 2 * n =
    λ n g h. y.least (2 * n) (even n g) h in
    ⊎_elim
    (λ (e : (amount ≡ below * parts) × (above ≡ below)).
    subst (λ (z : ℕ). AgreesAtEven (precision - 1) amount parts (odd_between below z)) (sym e.1)
    (subst (λ (z : ℕ). AgreesAtEven (precision - 1) amount parts z) (cond_same (is_odd_below below below) below)
    (exact_agrees (precision - 1) amount parts below p e.0)))
    (λ (e : (below * parts < amount) × (above ≡ (m + 1) * 2 ^ c)).
    let test : is_odd_below below above ≡ eqb (m % 2) 1 =
    ap (λ (z : ℕ). is_odd_below z above) i.below_is ∙ ap (λ (z : ℕ). is_odd_below (m * 2 ^ c) z) e.1
    ∙ odd_below_is m c in
    let b = i.below_is in
    let a = e.1 in
    let w : 0 < 2 ^ c = pow_pos c in
    let order : below ≤ above = omega (arith, a, b, w) in
    ⊎_elim
    (λ (q : m % 2 < 1).
    let t : is_odd_below below above ≡ false = test ∙ ne_eqb (m % 2) 1 (λ z. omega (arith, z, q)) in
    let o : above ≡ odd_between below above = ap (λ (z : Bool). cond z below above) (sym t) in
    subst (λ (z : ℕ). AgreesAtEven (precision - 1) amount parts z) o
    (between_agrees (precision - 1) amount parts below above above e.0 lower upper order (omega arith)
    (λ n g h. not_even precision (m + 1) c n (omega (arith, q))
    (⊎_elim (λ (z : c ≡ 0). inl z) (λ (z : 2 ^ (precision - 1) ≤ m). inr (omega (arith, z))) i.enclosed.full) g
    (sym a ∙ h))))
    (λ (q : 1 ≤ m % 2).
    let o' : m % 2 ≡ 1 = omega (arith, q) in
    let t : is_odd_below below above ≡ true = test ∙ eq-eqb (m % 2) 1 o' in
    let o : below ≡ odd_between below above = ap (λ (z : Bool). cond z below above) (sym t) in
    subst (λ (z : ℕ). AgreesAtEven (precision - 1) amount parts z) o
    (between_agrees (precision - 1) amount parts below above below e.0 lower upper (omega arith) order
    (λ n g h. not_even precision m c n o' i.enclosed.full g (sym b ∙ h))))
    (cases_lt (m % 2) 1))
    i.above_is

-- the odd neighbour is on the grid
pub odd_on_grid : (precision below above amount parts : ℕ) → IsBelow precision below amount parts
    → IsAbove precision above amount parts → IsOnGrid precision (odd_between below above)
odd_on_grid precision below above amount parts x y = either (is_odd_below below above)
  where
    either : (test : Bool) → IsOnGrid precision (cond test below above)
    either true = x.on_grid
    either false = y.on_grid

-- the sum of two neighbours needs at most one digit more
pub sum_on_grid : (precision below above amount parts : ℕ) → 0 < precision → 0 < parts
    → IsBelow precision below amount parts → IsAbove precision above amount parts
    → IsOnGrid (precision + 1) (below + above)
sum_on_grid precision below above amount parts l p x y =
    let i = neighbours precision below above amount parts l p x y in
    let m = i.m in
    let c = i.c in
    let b = i.below_is in
    ⊎_elim
    (λ (e : (amount ≡ below * parts) × (above ≡ below)).
    let s : 2 * below ≡ below + above = let a = e.1 in omega (arith, a) in
    subst (λ (z : ℕ). IsOnGrid (precision + 1) z) s
    (wider_grid precision (precision + 1) (2 * below) (omega arith) (twice_on_grid precision below x.on_grid)))
    (λ (e : (below * parts < amount) × (above ≡ (m + 1) * 2 ^ c)).
    record {
      significand = 2 * m + 1;
      place = c;
      fits = omega (arith, i.enclosed.fits, twice_power precision);
      is = omega (arith, e.1, b);
    })
    i.above_is
