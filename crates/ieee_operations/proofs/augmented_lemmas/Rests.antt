-- What a nearest sum leaves, by the two subtractions of Fast2Sum (Dekker), in every kind of format.
use Rattle.std.proofs.Common.{◌≡◌, ℕ, ◌^◌, ◌≤◌, true, ◌∙◌, subst, arith}
use Rattle.std.proofs.{Math.Nat.pow-le-pow_right, lemmas.Int.ints}
use Rattle.std.specs.Prelude.{ℤ, pos, negsuc, ◌+ℤ◌, ◌-ℤ◌, ◌≤ℤ◌}
use Rattle.apfloat_model.specs.declared.kinds.Round.TheVariants.{NearestTiesToEven}
use Rattle.apfloat_model.specs.formats.{Format.Format, Format.largest, Datum.Datum}
use Rattle.apfloat_model.specs.{rounding.Grid.IsOnGrid, rounding.Rounding.ok_bits, arithmetic.Exact.magnitude}
use Rattle.apfloat_model.specs.{arithmetic.Sums.IsDifference, order.Classes.is_finite, order.Order.number}
use Rattle.apfloat_model.proofs.{arithmetic.Signs.one_side, general.Powers.two_pos, rounding.Laws.zero_on_grid}
use Rattle.apfloat_pair_theory.proofs.numbers.Signed.{magnitude-sub, on_grid_as}
use Rattle.apfloat_pair_theory.proofs.numbers.Nearest.{IsNearest, nearest_above, nearest_below, error_le_second}
use Rattle.apfloat_pair_theory.proofs.numbers.{Nearest.error_on_grid, TwoSums.fast_two_sum_difference_greater}
use Rattle.ieee_operations.specs.augmented.Numbers.{HasNumber, IsAugmentedNumber, IsNearestTo}
use Rattle.ieee_operations.proofs.augmented_lemmas.Numbers.{rounded_exactly, ok_exactly, difference_rounded}

-- with three digits there are at least eight significands
pub eight : (precision : ℕ) → 3 ≤ precision → 8 ≤ 2 ^ precision
eight precision h = let a : 2 ^ 3 ≤ 2 ^ precision = pow-le-pow_right two_pos h in omega (arith, a)

pub as_nearest : (precision : ℕ) (exact z : ℤ) → IsNearestTo precision exact z → IsNearest precision exact z
as_nearest precision exact z n = record { on_grid = n.on_grid; nearest = n.nearest }

-- ---- sizes

between_up : (a c z top : ℤ) → pos 0 ≤ℤ a → magnitude c ≤ magnitude a → pos 0 ≤ℤ z
    → (n : ℕ) → magnitude a ≤ n → magnitude z ≤ n → magnitude (z -ℤ a) ≤ n
between_up a c z top h l k n x y = omega (arith, ints, one_side a, one_side z, one_side (z -ℤ a))

between_down : (a c z top : ℤ) → a ≤ℤ pos 0 → magnitude c ≤ magnitude a → z ≤ℤ pos 0
    → (n : ℕ) → magnitude a ≤ n → magnitude z ≤ n → magnitude (z -ℤ a) ≤ n
between_down a c z top h l k n x y = omega (arith, ints, one_side a, one_side z, one_side (z -ℤ a))

sum_up : (m : ℕ) (c : ℤ) → magnitude c ≤ magnitude (pos m) → pos 0 ≤ℤ (pos m +ℤ c)
sum_up m c h = omega (arith, ints, one_side c)

sum_down : (m : ℕ) (c : ℤ) → magnitude c ≤ magnitude (negsuc m) → (negsuc m +ℤ c) ≤ℤ pos 0
sum_down m c h = omega (arith, ints, one_side c)

-- the first difference is within the greater of the first operand and the sum
first_within : (precision top : ℕ) (a c z : ℤ) → magnitude c ≤ magnitude a → magnitude a ≤ top
    → magnitude z ≤ top → IsNearest precision (a +ℤ c) z → magnitude (z -ℤ a) ≤ top
first_within precision top (pos m) c z l x y n =
    let k = nearest_above precision (pos 0) (pos m +ℤ c) z (zero_on_grid precision) (sum_up m c l) n in
    between_up (pos m) c z z (omega (arith, ints)) l k top x y
first_within precision top (negsuc m) c z l x y n =
    let k = nearest_below precision (pos 0) (negsuc m +ℤ c) z (zero_on_grid precision) (sum_down m c l) n in
    between_down (negsuc m) c z z (omega (arith, ints)) l k top x y

-- ---- the exact rest is a number of the format

pub record IsInFormat (f : Format) (z : ℤ) : Type 0 where
  pub on_grid : IsOnGrid f.precision (magnitude z)
  pub within : magnitude z ≤ largest f

pub rest_in_format : (f : Format) → 3 ≤ f.precision → (a c z : ℤ) → IsOnGrid f.precision (magnitude a)
    → IsOnGrid f.precision (magnitude c) → magnitude c ≤ largest f
    → IsNearest f.precision (a +ℤ c) z → IsInFormat f ((a +ℤ c) -ℤ z)
rest_in_format f h a c z g k l n =
    let e = error_on_grid f.precision (eight f.precision h) a c z g k n in
    let s = magnitude-sub z (a +ℤ c) in
    record { on_grid = on_grid_as s e; within = omega (arith, s, error_le_second f.precision a c z g n, l) }

-- ---- the two subtractions

-- both are exact: the second gives the rest
pub rest_exact : (f : Format) (x y head first rest : Datum) (status : ℕ) → is_finite y ≡ true
    → HasNumber (number head -ℤ number x) first → IsDifference f NearestTiesToEven y first rest status
    → status ≡ ok_bits → HasNumber ((number x +ℤ number y) -ℤ number head) rest
rest_exact f x y head first rest status q d h o =
    let r = difference_rounded f NearestTiesToEven y first rest status q d.is_finite h in
    let k = ok_exactly f NearestTiesToEven r.0 (number y -ℤ number first) rest status r.1 o in
    record {
      is_finite = k.is_finite;
      number_is = k.number_is ∙ again (number x) (number y) (number head) (number first) d.number_is;
    } where
      again : (a c z d : ℤ) → d ≡ z -ℤ a → (c -ℤ d) ≡ ((a +ℤ c) -ℤ z)
      again a c z d e = omega (arith, ints, e)

-- the first is exact if its status is OK
pub first_exact : (f : Format) (x head first : Datum) (status : ℕ) → is_finite head ≡ true → is_finite x ≡ true
    → IsDifference f NearestTiesToEven head x first status → status ≡ ok_bits
    → HasNumber (number head -ℤ number x) first
first_exact f x head first status p q h o =
    let r = difference_rounded f NearestTiesToEven head x first status p q h in
    ok_exactly f NearestTiesToEven r.0 (number head -ℤ number x) first status r.1 o

-- of a nearest sum, the first subtraction of Fast2Sum is exact
pub first_of_nearest : (f : Format) → 3 ≤ f.precision → (x y head first : Datum) (status : ℕ)
    → IsAugmentedNumber f x → IsAugmentedNumber f y → IsAugmentedNumber f head
    → magnitude (number y) ≤ magnitude (number x) → IsNearestTo f.precision (number x +ℤ number y) (number head)
    → IsDifference f NearestTiesToEven head x first status → status ≡ ok_bits
first_of_nearest f h x y head first status p q r l n d =
    let a = number x in
    let c = number y in
    let z = number head in
    let n' = as_nearest f.precision (a +ℤ c) z n in
    let g = fast_two_sum_difference_greater f.precision (eight f.precision h) a c z p.on_grid q.on_grid l n' in
    let w = first_within f.precision (largest f) a c z l p.within r.within n' in
    let k = difference_rounded f NearestTiesToEven head x first status r.is_finite p.is_finite d in
    (rounded_exactly f NearestTiesToEven k.0 (z -ℤ a) first status g w k.1).status_is

-- of a nearest sum, the second subtraction of Fast2Sum is exact
pub second_of_nearest : (f : Format) → 3 ≤ f.precision → (x y head first rest : Datum) (status : ℕ)
    → IsAugmentedNumber f x → IsAugmentedNumber f y → HasNumber (number head -ℤ number x) first
    → IsNearestTo f.precision (number x +ℤ number y) (number head)
    → IsDifference f NearestTiesToEven y first rest status → status ≡ ok_bits
second_of_nearest f h x y head first rest status p q d n s =
    let a = number x in
    let c = number y in
    let z = number head in
    let i = rest_in_format f h a c z p.on_grid q.on_grid q.within (as_nearest f.precision (a +ℤ c) z n) in
    let r = difference_rounded f NearestTiesToEven y first rest status q.is_finite d.is_finite s in
    let k : ((a +ℤ c) -ℤ z) ≡ (c -ℤ number first) = omega (arith, ints, d.number_is) in
    (rounded_exactly f NearestTiesToEven r.0 (c -ℤ number first) rest status
    (subst (λ (v : ℤ). IsOnGrid f.precision (magnitude v)) k i.on_grid)
    (subst (λ (v : ℤ). magnitude v ≤ largest f) k i.within) r.1).status_is
