-- Roundings of exact / parts quanta: exact ones, products, and what a fused sum leaves of a product.
use Rattle.std.proofs.Common.{◌≡◌, ℕ, ◌+◌, ◌-◌, ◌*◌, ◌^◌, ◌<◌, ◌≤◌, Bool, true, sym, ap, ◌∙◌, subst, ⊎_elim, arith}
use Rattle.std.proofs.Math.Nat.{mul-le-mul_left, mul-lt-mul_of_pos_right, lt_of_mul-lt-mul_right}
use Rattle.std.proofs.lemmas.{Bool.cases_lt, Bool.false≢true, Nat.pow-add, Nat.pow_pos, Nat.mul-lt}
use Rattle.std.specs.Prelude.{ℤ, pos, neg_ℤ, ◌+ℤ◌, ◌-ℤ◌, ◌*ℤ◌}
use Rattle.apfloat_model.specs.declared.kinds.Round.{Round, TheVariants.NearestTiesToEven}
use Rattle.apfloat_model.specs.formats.Format.{Format, largest}
use Rattle.apfloat_model.specs.formats.Datum.{Datum, finite, infinite, nan}
use Rattle.apfloat_model.specs.rounding.{Grid.IsOnGrid, Rounding.ok_bits, Negation.negated}
use Rattle.apfloat_model.specs.arithmetic.{Sums.zero_sum_sign, Products.IsProduct, FusedSums.IsFusedSum}
use Rattle.apfloat_model.specs.arithmetic.Exact.{magnitude, signed, sign_of, product_sign, IsRounded}
use Rattle.apfloat_model.specs.order.{Classes.is_finite, Classes.is_negative, Order.number}
use Rattle.apfloat_model.proofs.arithmetic.Signs.{magnitude_signed, rounded_signed}
use Rattle.apfloat_model.proofs.general.Powers.{half_at_most, twice_half}
use Rattle.apfloat_model.proofs.whole_numbers.SignedProducts.{difference_times, neg_times, magnitude-mul}
use Rattle.apfloat_model.proofs.whole_numbers.SignedProducts.{magnitude-times, signed_product, signed_times}
use Rattle.apfloat_pair_theory.proofs.numbers.{Nearest.IsNearest, Roundings.signed_exact}
use Rattle.apfloat_pair_theory.proofs.numbers.Roundings.{pick_is_nearest, IsNearestFraction, whole_nearest}
use Rattle.apfloat_pair_theory.proofs.numbers.Signed.{IsGridNumber, magnitude-sub, grown, on_grid_as}
use Rattle.apfloat_pair_theory.proofs.numbers.WholeProducts.{IsWholeProduct, whole_product, product_error_on_grid}
use Rattle.apfloat_pair_theory.proofs.sums.{PairRoundings.error_eighth, DifferenceLaws.minus_is}
use Rattle.ieee_operations.specs.augmented.Numbers.{IsAugmentedNumber}
use Rattle.ieee_operations.proofs.augmented_lemmas.{Multiples.times_cancelled, Numbers.signed_number}
use Rattle.ieee_operations.proofs.augmented_lemmas.Numbers.{within_is, fraction_exactly, finite_within, negated_has}
use Rattle.ieee_operations.proofs.augmented_lemmas.Rests.{eight}

-- ---- products and fused sums of finite data

pub product_rounded : (f : Format) (mode : Round) (x y value : Datum) (status : ℕ) → is_finite x ≡ true
    → is_finite y ≡ true → 0 < magnitude (number x *ℤ number y) → IsProduct f mode x y value status
    → IsRounded f mode (product_sign (is_negative x) (is_negative y)) (number x *ℤ number y) (2 ^ f.scale) value status
product_rounded f mode (finite b m) (finite c n) value status p q o h =
    let e : signed (product_sign b c) (m * n) ≡ (signed b m *ℤ signed c n) = signed_product b c m n in
    let k = ap magnitude (sym e) ∙ magnitude_signed (product_sign b c) (m * n) in
    rounded_signed f mode (product_sign b c) (product_sign b c) (m * n) (2 ^ f.scale) (signed b m *ℤ signed c n) value
    status (sym e) (subst (λ (i : ℕ). 0 < i) k o) h
product_rounded f mode (finite b m) (infinite c) value status p q o h = absurd (false≢true q)
product_rounded f mode (finite b m) (nan c n) value status p q o h = absurd (false≢true q)
product_rounded f mode (infinite b) y value status p q o h = absurd (false≢true p)
product_rounded f mode (nan b m) y value status p q o h = absurd (false≢true p)

fused_rounded : (f : Format) (mode : Round) (x y z value : Datum) (status : ℕ) → is_finite x ≡ true
    → is_finite y ≡ true → is_finite z ≡ true → IsFusedSum f mode x y z value status
    → (of_zero : Bool) × IsRounded f mode of_zero ((number x *ℤ number y) +ℤ (number z *ℤ pos (2 ^ f.scale)))
    (2 ^ f.scale) value status
fused_rounded f mode (finite b l) (finite c m) (finite d n) value status p q r h =
    let e : signed (product_sign b c) (l * m) ≡ (signed b l *ℤ signed c m) = signed_product b c l m in
    let g : signed d (n * 2 ^ f.scale) ≡ (signed d n *ℤ pos (2 ^ f.scale)) = signed_times d n (2 ^ f.scale) in
    let w : (signed (product_sign b c) (l * m) +ℤ signed d (n * 2 ^ f.scale)) ≡ ((signed b l *ℤ signed c m) +ℤ
    (signed d n *ℤ pos (2 ^ f.scale))) =
    ap (λ (i : ℤ). i +ℤ signed d (n * 2 ^ f.scale)) e ∙ ap (λ (i : ℤ). (signed b l *ℤ signed c m) +ℤ i) g in (
      zero_sum_sign mode (product_sign b c) d,
      subst (λ (i : ℤ). IsRounded f mode (zero_sum_sign mode (product_sign b c) d) i (2 ^ f.scale) value status) w h,
    )
fused_rounded f mode (finite b l) (finite c m) (infinite d) value status p q r h = absurd (false≢true r)
fused_rounded f mode (finite b l) (finite c m) (nan d n) value status p q r h = absurd (false≢true r)
fused_rounded f mode (finite b l) (infinite c) z value status p q r h = absurd (false≢true q)
fused_rounded f mode (finite b l) (nan c m) z value status p q r h = absurd (false≢true q)
fused_rounded f mode (infinite b) y z value status p q r h = absurd (false≢true p)
fused_rounded f mode (nan b l) y z value status p q r h = absurd (false≢true p)

-- what a finite head leaves of a product, in parts of a quantum
abbrev pub rest_of_product : Format → Datum → Datum → Datum → ℤ
rest_of_product f x y head = (number x *ℤ number y) -ℤ (number head *ℤ pos (2 ^ f.scale))

pub rest_rounded : (f : Format) (mode : Round) (x y head value : Datum) (status : ℕ) → is_finite x ≡ true
    → is_finite y ≡ true → is_finite head ≡ true → IsFusedSum f mode x y (negated f.nonfinite head) value status
    → (of_zero : Bool) × IsRounded f mode of_zero (rest_of_product f x y head) (2 ^ f.scale) value status
rest_rounded f mode x y head value status p q r h =
    let o = negated_has f head r in
    let k = fused_rounded f mode x y (negated f.nonfinite head) value status p q o.is_finite h in
    let u = pos (2 ^ f.scale) in
    let e : (number (negated f.nonfinite head) *ℤ pos (2 ^ f.scale)) ≡ neg_ℤ (number head *ℤ pos (2 ^ f.scale)) =
    ap (λ (i : ℤ). i *ℤ pos (2 ^ f.scale)) o.number_is ∙ neg_times (number head) (pos (2 ^ f.scale)) in (
      k.0,
      subst (λ (i : ℤ). IsRounded f mode k.0 i (2 ^ f.scale) value status)
          (minus_is (number x *ℤ number y) (number head *ℤ u) (number (negated f.nonfinite head) *ℤ u) e) k.1,
    )

-- ---- products that are an integral number of quanta

-- Where the last digits of the factors are below the quantum, the product is below 2 ^ (2 * precision - 1) quanta.
pub small_product : (precision scale m n : ℕ) → 0 < precision → (g : IsOnGrid precision m) (h : IsOnGrid precision n)
    → g.place + h.place < scale → m * n < 2 ^ precision * (2 ^ (precision - 1) * 2 ^ scale)
small_product precision scale m n p g h q =
    let a : m ≡ g.significand * 2 ^ g.place = g.is in
    let b : n ≡ h.significand * 2 ^ h.place = h.is in
    let e : m * n ≡ (g.significand * 2 ^ g.place) * (h.significand * 2 ^ h.place) =
    ap (λ (i : ℕ). i * n) a ∙ ap (λ (i : ℕ). (g.significand * 2 ^ g.place) * i) b in
    let w : 2 ^ (g.place + h.place) ≡ 2 ^ g.place * 2 ^ h.place = pow-add 2 g.place h.place in
    let e' : (g.significand * h.significand) * 2 ^ (g.place + h.place) ≡ (g.significand * h.significand)
    * (2 ^ g.place * 2 ^ h.place) = ap (λ (i : ℕ). (g.significand * h.significand) * i) w in
    let f = mul-lt g.significand h.significand (2 ^ precision) (2 ^ precision) g.fits h.fits in
    let f' = mul-lt-mul_of_pos_right f (pow_pos (g.place + h.place)) in
    let t : 2 * 2 ^ (g.place + h.place) ≤ 2 ^ scale = half_at_most (g.place + h.place) scale q in
    let t' = mul-le-mul_left (2 ^ precision * 2 ^ (precision - 1)) t in
    let d : (2 ^ precision * 2 ^ precision) * 2 ^ (g.place + h.place)
    ≡ (2 ^ precision * (2 * 2 ^ (precision - 1))) * 2 ^ (g.place + h.place) =
    ap (λ (i : ℕ). (2 ^ precision * i) * 2 ^ (g.place + h.place)) (sym (twice_half precision p)) in
    omega (arith, e, e', f', t', d)

-- an integral number of quanta that is a product has at most twice the digits of a grid number
pub whole_of : (precision scale : ℕ) (a c x : ℤ) → 0 < precision → IsGridNumber precision a → IsGridNumber precision c
    → (x *ℤ pos (2 ^ scale)) ≡ (a *ℤ c) → IsWholeProduct precision scale a c x
whole_of precision scale a c x p g h e =
    ⊎_elim
    (λ (q : g.place + h.place < scale).
    let s = sym (magnitude-times x (2 ^ scale)) ∙ ap magnitude e ∙ magnitude-mul a c in
    let l = small_product precision scale (magnitude a) (magnitude c) p g h q in
    let k : magnitude x * 2 ^ scale < (2 ^ precision * 2 ^ (precision - 1)) * 2 ^ scale = omega (arith, s, l) in
    let n : magnitude x < 2 ^ precision * 2 ^ (precision - 1) = lt_of_mul-lt-mul_right (2 ^ scale) k in
    let v : 2 ^ precision * 2 ^ (precision - 1) ≤ 2 ^ precision * 2 ^ precision =
    mul-le-mul_left (2 ^ precision) (omega (arith, twice_half precision p)) in
    record {
      is = e;
      place = 0;
      multiple = record { times = magnitude x; is = omega arith };
      bound = omega (arith, n, v);
    })
    (λ (q : scale ≤ g.place + h.place).
    let w = whole_product precision scale a c g h q in
    subst (λ (z : ℤ). IsWholeProduct precision scale a c z)
    (times_cancelled w.0 x (2 ^ scale) (pow_pos scale) (w.1.is ∙ sym e)) w.1)
    (cases_lt (g.place + h.place) scale)

-- ---- nearest fractions

-- a finite rounding to nearest of an integral number of quanta is a nearest number
finite_is_nearest : (f : Format) (of_zero : Bool) (exact whole : ℤ) (parts : ℕ) (value : Datum) (status : ℕ)
    → 0 < parts → (whole *ℤ pos parts) ≡ exact → is_finite value ≡ true
    → IsRounded f NearestTiesToEven of_zero exact parts value status → IsNearest f.precision whole (number value)
finite_is_nearest f of_zero exact whole parts value status p e q x =
    let s = sign_of of_zero exact in
    let v = x.value_is ∙ within_is f NearestTiesToEven s x.pick (finite_within f s x.pick value q x.value_is) in
    let k : number value ≡ signed s x.pick = ap number v ∙ (signed_number f.nonfinite s x.pick).number_is in
    let n : IsNearestFraction f.precision parts exact (signed s x.pick) =
    subst (λ (i : ℤ). IsNearestFraction f.precision parts i (signed s x.pick)) (signed_exact of_zero exact)
    (pick_is_nearest f.precision s (magnitude exact) parts x.pick x.is_pick) in
    subst (λ (i : ℤ). IsNearest f.precision whole i) (sym k)
    (whole_nearest f.precision parts exact whole (signed s x.pick) p e n)

-- What the finite product to nearest leaves of an integral number of quanta is exact.
pub whole_is_exact : (f : Format) → 3 ≤ f.precision → (x y near rest : Datum) (i j : ℕ) (whole : ℤ)
    → IsAugmentedNumber f x → IsAugmentedNumber f y → IsAugmentedNumber f near → 0 < magnitude (number x *ℤ number y)
    → IsProduct f NearestTiesToEven x y near i → IsFusedSum f NearestTiesToEven x y (negated f.nonfinite near) rest j
    → (whole *ℤ pos (2 ^ f.scale)) ≡ (number x *ℤ number y) → j ≡ ok_bits
whole_is_exact f h x y near rest i j v nx ny nn o product fused e =
    let z = number near in
    let n = finite_is_nearest f (product_sign (is_negative x) (is_negative y)) (number x *ℤ number y) v (2 ^ f.scale)
    near i (pow_pos f.scale) e nn.is_finite
    (product_rounded f NearestTiesToEven x y near i nx.is_finite ny.is_finite o product) in
    let wide = eight f.precision h in
    let w = whole_of f.precision f.scale (number x) (number y) v (omega (arith, h)) nx.on_grid ny.on_grid e in
    let g = on_grid_as (magnitude-sub z v)
    (product_error_on_grid f.precision wide f.scale (number x) (number y) v z w n) in
    let c = magnitude-sub z v in
    let d = grown z v in
    let l : magnitude (v -ℤ z) ≤ largest f = omega (arith, error_eighth f.precision wide v z n, c, d, nn.within) in
    let r = rest_rounded f NearestTiesToEven x y near rest j nx.is_finite ny.is_finite nn.is_finite fused in
    let t : ((v -ℤ z) *ℤ pos (2 ^ f.scale)) ≡ rest_of_product f x y near =
    difference_times v z (pos (2 ^ f.scale)) ∙ ap (λ (k : ℤ). k -ℤ (z *ℤ pos (2 ^ f.scale))) e in
    (fraction_exactly f NearestTiesToEven r.0 (v -ℤ z) (rest_of_product f x y near) (2 ^ f.scale) rest j
    (pow_pos f.scale) g l t r.1).status_is
