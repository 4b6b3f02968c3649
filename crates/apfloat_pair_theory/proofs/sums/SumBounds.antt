-- The error of the sum of two normalized pairs.
use Rattle.std.proofs.Common.{◌≡◌, ℕ, ◌+◌, ◌*◌, ◌^◌, ◌≤◌, arith}
use Rattle.std.proofs.{Math.Nat.mul-le-mul_left, lemmas.Int.ints}
use Rattle.std.specs.Prelude.{ℤ, ◌+ℤ◌, ◌-ℤ◌}
use Rattle.apfloat_model.specs.arithmetic.Exact.{magnitude}
use Rattle.apfloat_model.proofs.arithmetic.Signs.{one_side}
use Rattle.apfloat_pair_theory.proofs.numbers.{Signed.first_most, Signed.magnitude_le, Nearest.IsNearest}
use Rattle.apfloat_pair_theory.proofs.numbers.{Nearest.relative_error, TwoSums.positive, TwoSums.two_sum}
use Rattle.apfloat_pair_theory.proofs.sums.PairRoundings.{IsOpening, eighth, rest_small, low_small, rounded_low}

-- the losses i and j are at most 8 / p ^ 2 of A + C, the magnitudes of the operands
losses_total : (p a c s e aa cc A C i j x d : ℕ) → 8 ≤ p → p * e ≤ s → p * aa ≤ A → p * cc ≤ C → p * i ≤ e + aa
    → p * j ≤ x + cc → x ≤ e + aa + i → s ≤ a + c → a ≤ A + aa → c ≤ C + cc → d ≤ i + j → p * (p * d) ≤ 8 * (A + C)
losses_total p a c s e aa cc A C i j x d w h1 h2 h3 h4 h5 h6 h7 h8 h9 h0 =
    let e₈ : 8 * e ≤ s = eighth p e s w h1 in
    let a₈ : 8 * aa ≤ A = eighth p aa A w h2 in
    let c₈ : 8 * cc ≤ C = eighth p cc C w h3 in
    let t₁ : p * (p * i) ≤ p * (e + aa) = mul-le-mul_left p h4 in
    let t₂ : p * (p * j) ≤ p * (x + cc) = mul-le-mul_left p h5 in
    let t₃ : p * x ≤ p * (e + aa + i) = mul-le-mul_left p h6 in
    let t₄ : p * d ≤ p * (i + j) = mul-le-mul_left p h0 in
    let t₅ : p * (p * d) ≤ p * (p * (i + j)) = mul-le-mul_left p t₄ in
    omega arith

-- the whole error is that of the two roundings with the low parts
rest_error : (a aa c cc z e x y : ℤ) → e ≡ ((a +ℤ c) -ℤ z)
    → magnitude ((z +ℤ y) -ℤ ((a +ℤ aa) +ℤ (c +ℤ cc))) ≤ magnitude (x -ℤ (e +ℤ aa)) + magnitude (y -ℤ (x +ℤ cc))
rest_error a aa c cc z e x y f =
    omega (
      arith,
      ints,
      one_side ((z +ℤ y) -ℤ ((a +ℤ aa) +ℤ (c +ℤ cc))),
      one_side (x -ℤ (e +ℤ aa)),
      one_side (y -ℤ (x +ℤ cc)),
    )

module _ (precision : ℕ) (wide : 8 ≤ 2 ^ precision) where
  -- the error is at most 8 / 2 ^ (2 * digits) of the sum of both magnitudes
  pub opening_bound : (a aa c cc z q v r d e x y : ℤ) → IsNearest precision (a +ℤ aa) a
      → IsNearest precision (c +ℤ cc) c → IsOpening precision a aa c cc z q v r d e x y
      → 2 ^ precision * (2 ^ precision * magnitude ((z +ℤ y) -ℤ ((a +ℤ aa) +ℤ (c +ℤ cc))))
      ≤ 8 * (magnitude (a +ℤ aa) + magnitude (c +ℤ cc))
  opening_bound a aa c cc z q v r d e x y na nc k =
      let p = positive precision wide in
      let f : e ≡ ((a +ℤ c) -ℤ z) = two_sum precision wide a c z q v r d e na.on_grid nc.on_grid k.six in
      let rx = relative_error precision (e +ℤ aa) x p k.with_first in
      let lx = magnitude_le e aa in
      let ux : 2 ^ precision * magnitude (x -ℤ (e +ℤ aa)) ≤ magnitude e + magnitude aa = omega arith in
      let ry = relative_error precision (x +ℤ cc) y p k.with_second in
      let ly = magnitude_le x cc in
      let uy : 2 ^ precision * magnitude (y -ℤ (x +ℤ cc)) ≤ magnitude x + magnitude cc = omega arith in
      losses_total (2 ^ precision) _ _ _ _ _ _ _ _ _ _ _ _ wide (rest_small precision wide a c z e k.six.sum f)
      (low_small precision wide a aa na) (low_small precision wide c cc nc) ux uy
      (rounded_low e aa x) (magnitude_le a c) (first_most a aa) (first_most c cc) (rest_error a aa c cc z e x y f)
