-- The product of two pairs of doubles, rounded to nearest: that of two doubles is exact, and that of normalized pairs
-- is normalized, and close to the exact product.
use Rattle.std.proofs.Common.{◌≡◌, ℕ, ◌+◌, ◌*◌, ◌^◌, ◌<◌, ◌≤◌, true, sym, ap, ◌∙◌, subst, arith, lit≤}
use Rattle.std.proofs.Math.Nat.{mul-le-mul_right, le_of_mul-le-mul_left, le_of_mul-le-mul_right}
use Rattle.std.proofs.lemmas.{Nat.pow_pos, Nat.mul-le, Int.ints}
use Rattle.std.specs.Prelude.{ℤ, pos, neg_ℤ, ◌+ℤ◌, ◌-ℤ◌, ◌*ℤ◌}
use Rattle.apfloat_model.specs.{order.Order.number, arithmetic.Exact.magnitude, formats.Members.IsMember}
use Rattle.apfloat_model.specs.declared.kinds.Round.TheVariants.{NearestTiesToEven}
use Rattle.apfloat_model.specs.order.Classes.{is_finite, is_finite_non_zero}
use Rattle.apfloat_model.proofs.{rounding.Laws.zero_on_grid, whole_numbers.SignedProducts.magnitude-mul}
use Rattle.apfloat_pair_theory.specs.{PairFormats.double, Pairs.Pair, Pairs.pair_number, Pairs.IsNormalised}
use Rattle.apfloat_pair_theory.specs.PairProducts.{IsPairProduct}
use Rattle.apfloat_pair_theory.specs.PairAccuracy.{HaveExponents, IsExactPair, IsErrorFreeProduct, IsAccurateProduct}
use Rattle.apfloat_pair_theory.proofs.numbers.Signed.{magnitude-sub, magnitude_le, first_most, IsGridNumber, on_grid_as}
use Rattle.apfloat_pair_theory.proofs.numbers.Nearest.{IsNearest, nearest_exact}
use Rattle.apfloat_pair_theory.proofs.numbers.WholeProducts.{IsWholeProduct, whole_size, product_error_on_grid}
use Rattle.apfloat_pair_theory.proofs.numbers.FractionErrors.{IsCloseFraction, fraction_size}
use Rattle.apfloat_pair_theory.proofs.sums.{PairRoundings.low_small, SumSteps.size, ClosingSums.wide_enough}
use Rattle.apfloat_pair_theory.proofs.pairs.LawOperands.{IsDoubleAlone, double_alone, member_on_grid, single_low}
use Rattle.apfloat_pair_theory.proofs.pairs.LawOperands.{normalised_nearest}
use Rattle.apfloat_pair_theory.proofs.products.{ProductSteps.IsLostNumber, ProductBounds.product_bound}
use Rattle.apfloat_pair_theory.proofs.products.ProductRanges.{fewer, lengths_of, product_low, in_range}
use Rattle.apfloat_pair_theory.proofs.products.ProductAnswers.{IsFactor, product_numbers}

-- ---- two doubles: low parts that are zero add nothing

-- an integer below one unit is zero
none_left : (p u v e : ℕ) → 0 < p → 0 < u → 2 * (p * e) ≤ p * u → v * u ≤ e → v ≡ 0
none_left p u v e q w h l =
    let a : p * (2 * e) ≤ p * u = omega arith in
    let b : 2 * e ≤ u = le_of_mul-le-mul_left a q in
    let c : (2 * v) * u ≤ 1 * u = omega arith in
    let d : 2 * v ≤ 1 = le_of_mul-le-mul_right c w in
    omega arith

-- only 0 has the magnitude 0
nothing : (v : ℤ) → magnitude v ≡ 0 → v ≡ pos 0
nothing v h = omega (arith, ints, h)

-- a number close to 0 is 0
zero_close : (precision parts : ℕ) (exact v : ℤ) → 0 < parts → magnitude exact ≡ 0
    → IsCloseFraction precision parts exact v → v ≡ pos 0
zero_close precision parts exact v u z h =
    nothing v
    (none_left (2 ^ precision) parts (magnitude v) (magnitude ((v *ℤ pos parts) -ℤ exact)) (pow_pos precision) u
    (omega (arith, h, z)) (omega (arith, fraction_size parts exact v, z)))

-- the rounded product and what the steps add to it are the exact product
exact_steps : (precision : ℕ) → 8 ≤ 2 ^ precision → (scale : ℕ) (a c x ad bc t tau : ℤ)
    → IsWholeProduct precision scale a c x → magnitude ad ≡ 0 → magnitude bc ≡ 0 → IsNearest precision x t
    → IsLostNumber precision scale x ad bc t tau → (t +ℤ tau) ≡ x
exact_steps precision wide scale a c x ad bc t tau w za zb nt l =
    let ev = zero_close precision (2 ^ scale) ad l.v (pow_pos scale) za l.v_close in
    let ew = zero_close precision (2 ^ scale) bc l.w (pow_pos scale) zb l.w_close in
    let sum : (l.v +ℤ l.w) ≡ pos 0 = omega (arith, ints, ev, ew) in
    let ec = nearest_exact precision (l.v +ℤ l.w) l.cross (on_grid_as (sym (ap magnitude sum)) (zero_on_grid precision))
    l.cross_is in
    let q : ((x -ℤ t) +ℤ l.cross) ≡ (x -ℤ t) = omega (arith, ints, ec, sum) in
    let o : IsGridNumber precision (x -ℤ t) =
    on_grid_as (magnitude-sub t x) (product_error_on_grid precision wide scale a c x t w nt) in
    let et = nearest_exact precision (x -ℤ t) tau o (subst (λ (i : ℤ). IsNearest precision i tau) q l.tau_is) in
    omega (arith, ints, et)

-- a product with 0 has the magnitude 0
no_product : (m n : ℤ) → n ≡ pos 0 → magnitude (m *ℤ n) ≡ 0
no_product m n e =
    let z : magnitude m * magnitude n ≡ magnitude m * 0 = ap (λ (i : ℤ). magnitude m * magnitude i) e in
    magnitude-mul m n ∙ z ∙ omega arith

-- a product with a first factor of 0 has the magnitude 0
no_product_first : (m n : ℤ) → m ≡ pos 0 → magnitude (m *ℤ n) ≡ 0
no_product_first m n e =
    let z : magnitude m * magnitude n ≡ 0 * magnitude n = ap (λ (i : ℤ). magnitude i * magnitude n) e in
    magnitude-mul m n ∙ z ∙ omega arith

-- adding 0 changes nothing
high_alone : (a b : ℤ) → b ≡ pos 0 → a ≡ (a +ℤ b)
high_alone a b e = omega (arith, ints, e)

-- a low part of 0 is within every bound
no_low : (z : ℤ) (n : ℕ) → z ≡ pos 0 → 64 * magnitude z ≤ n
no_low z n e = let m : magnitude z ≡ 0 = ap magnitude e in omega (arith, m)

-- a double alone is a factor of the laws
single_factor : (x : Pair) → IsDoubleAlone x → is_finite_non_zero x.high ≡ true → IsFactor x
single_factor x s n = record {
  is_number = n;
  finite_low = ap is_finite s.low_is;
  small = no_low (number x.low) (size x.high) (single_low x s);
}

-- the product of two doubles is exact
alone_product : (x y answer : Pair) (status : ℕ) → IsPairProduct NearestTiesToEven x y answer status
    → IsDoubleAlone x → IsDoubleAlone y → HaveExponents x y (neg_ℤ (pos 970)) (pos 1021)
    → IsExactPair (pair_number x *ℤ pair_number y) (2 ^ double.scale) answer
alone_product x y answer status k s t e =
    let ga = member_on_grid x.high s.is_finite s.is_double in
    let gc = member_on_grid y.high t.is_finite t.is_double in
    let r = in_range (number x.high) (number y.high) ga gc (lengths_of x y 970 1021 1178 3169 e (lit≤ tt) (lit≤ tt)) in
    let n = product_numbers x y answer status r.0 (single_factor x s e.first_is_number)
    (single_factor y t e.second_is_number) r.1 k in
    let zx = single_low x s in
    let zy = single_low y t in
    let v : (n.t +ℤ n.tau) ≡ r.0 =
    exact_steps double.precision wide_enough double.scale (number x.high) (number y.high) r.0 _ _ n.t n.tau r.1.whole
    (no_product (number x.high) (number y.low) zy) (no_product_first (number x.low) (number y.high) zx) n.t_is n.lost in
    record {
      normalised = n.normalised;
      number_is =
          ap (λ (i : ℤ). i *ℤ pos (2 ^ double.scale)) (n.number_is ∙ v) ∙ r.1.whole.is ∙
          ap (λ (i : ℤ). i *ℤ number y.high) (high_alone (number x.high) (number x.low) zx) ∙
          ap (λ (i : ℤ). pair_number x *ℤ i) (high_alone (number y.high) (number y.low) zy);
    }

-- the law of error-free products
pub error_free_product : (x y answer : Pair) (status : ℕ) → IsMember double x.high → IsMember double y.high
    → IsPairProduct NearestTiesToEven x y answer status → IsErrorFreeProduct x y answer
error_free_product x y answer status mx my k s t e =
    alone_product x y answer status k (double_alone x mx s) (double_alone y my t) e

-- ---- two normalized pairs

-- the low part of a normalized pair is small relative to the pair
low_below : (p k m s : ℕ) → 128 ≤ p → p * k ≤ s → s ≤ m + k → 64 * k ≤ m
low_below p k m s w h l = let b : 128 * k ≤ p * k = mul-le-mul_right k w in omega arith

-- the high part of a normalized pair is at least half of the number
half_of : (m s k : ℕ) → m ≤ s + k → 64 * k ≤ m → m ≤ 2 * s
half_of m s k h l = omega arith

-- if a product is far above a quantum, so is the product of the high parts
big_enough : (p u x A C m n w : ℕ) → 32 * (p * p) ≤ w → w ≤ x → x * u ≡ m * n → m ≤ 2 * A → n ≤ 2 * C
    → 8 * (p * (p * u)) ≤ A * C
big_enough p u x A C m n w h l e f g =
    let a : m * n ≤ (2 * A) * (2 * C) = mul-le m n (2 * A) (2 * C) f g in
    let d : 32 * (p * p) ≤ x = omega arith in
    let b : 32 * (p * p) * u ≤ x * u = mul-le-mul_right u d in
    omega arith

-- an error of at most 16 * 2 ^ -106 of a size is at most 2 ^ -102 of it
sixteenth : (e s : ℕ) → 2 ^ 53 * (2 ^ 53 * e) ≤ 16 * s → e * 2 ^ 102 ≤ s
sixteenth e s h = omega arith

-- the low part of a normalized pair is small relative to its number
number_low : (x : Pair) → IsNormalised x → 2 ^ double.precision * size x.low ≤ magnitude (pair_number x)
number_low x n = low_small double.precision wide_enough (number x.high) (number x.low) (normalised_nearest x n)

-- the low part of a normalized pair is at most a 64th of the high part
low_quanta : (x : Pair) → IsNormalised x → 64 * size x.low ≤ size x.high
low_quanta x n =
    low_below (2 ^ double.precision) _ _ _ (lit≤ tt) (number_low x n) (magnitude_le (number x.high) (number x.low))

-- the high part of a normalized pair is at most twice its number
half_high : (x : Pair) → IsNormalised x → size x.high ≤ 2 * magnitude (pair_number x)
half_high x n = half_of _ _ _ (first_most (number x.high) (number x.low)) (low_quanta x n)

-- a normalized pair is a factor of the laws
normalised_factor : (x : Pair) → IsNormalised x → is_finite_non_zero x.high ≡ true → IsFactor x
normalised_factor x s n = record { is_number = n; finite_low = s.finite_low; small = low_quanta x s }

-- the product of normalized pairs is normalized, and close to the exact product
pub accurate_product : (x y answer : Pair) (status : ℕ) → IsPairProduct NearestTiesToEven x y answer status
    → IsAccurateProduct x y answer
accurate_product x y answer status k s t e =
    let nx = normalised_nearest x s in
    let ny = normalised_nearest y t in
    let l = lengths_of x y 900 1021 1248 3169 e (lit≤ tt) (lit≤ tt) in
    let r = in_range (number x.high) (number y.high) nx.on_grid ny.on_grid (fewer _ _ 1248 1178 3169 (lit≤ tt) l) in
    let n = product_numbers x y answer status r.0 (normalised_factor x s e.first_is_number)
    (normalised_factor y t e.second_is_number) r.1 k in
    let w = whole_size double.precision double.scale (number x.high) (number y.high) r.0 r.1.whole in
    let big = big_enough (2 ^ double.precision) (2 ^ double.scale) _ _ _ _ _ (2 ^ 174) (lit≤ tt)
    (product_low double.scale 174 _ _ (magnitude r.0) 1248 3169 l w (lit≤ tt)) w (half_high x s) (half_high y t) in
    let v = product_bound double.precision double.scale (number x.high) (number x.low) (number y.high)
    (number y.low) r.0 n.t n.tau wide_enough (number_low x s) (number_low y t) r.1.whole.is n.t_is n.lost big in
    let exact : ℤ = pair_number x *ℤ pair_number y in
    record {
      normalised = n.normalised;
      error =
          subst
          (λ (i : ℤ). magnitude ((i *ℤ pos (2 ^ double.scale)) -ℤ exact) * 2 ^ 102 ≤ magnitude exact) (sym n.number_is)
          (subst (λ (i : ℕ). magnitude (((n.t +ℤ n.tau) *ℤ pos (2 ^ double.scale)) -ℤ exact) * 2 ^ 102 ≤ i)
          (sym (magnitude-mul (pair_number x) (pair_number y))) (sixteenth _ _ v));
    }
